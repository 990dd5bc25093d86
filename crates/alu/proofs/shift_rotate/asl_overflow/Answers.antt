-- `asl_overflow` meets its contract: what is found so far, or is still to come, is V of all positions.
-- Assumes nothing.
use native.Mathlib.Omega.{arith}
use mathlib.Core.Path.{◌≡◌, sym, ap, ◌∙◌}
use mathlib.Core.Bool.{◌||◌}
use native.Mathlib.Nat.{sub-zero}
use Prim.Native.Nat.{ℕ, suc, ◌+◌, ◌-◌, min}
use Rattle.alu.specs.Bits.{bits_of, low, top}
use Rattle.alu.specs.Shifts.{changed}
use Rattle.alu.proofs.Bounds.{bits_pos, bits_le}
use Rattle.alu.proofs.Overflow.{walk_start, walk_step, walk_end}
use Rattle.alu.proofs.shift_rotate.asl_overflow.Goals as goal

pub loop-init : goal.loop-init
loop-init c = let a = c.args in rw (c.min-end.ensures, c.bits.ensures.0, sub-zero (min a.k (bits_of a.size))) (walk_start (bits_of a.size) a.k a.value)

pub loop-preserved : goal.loop-preserved
loop-preserved c =
    let a = c.args in
    let l = c.loop in
    let n = bits_of a.size in
    let left = c.min-end.result - (l.counter + 1) in
    let more : c.min-end.result - l.counter ≡ suc left = omega arith in
    l.invariant ∙ ap (λ (j : ℕ). top n l.changes || changed n j (low n l.operand)) more ∙
    walk_step n left l.operand l.changes (bits_pos a.size) (bits_le a.size)

pub returns : goal.returns
returns c =
    let a = c.args in
    let l = c.loop in
    c.top.ensures ∙ sym (l.invariant ∙ walk_end (bits_of a.size) (c.min-end.result - l.counter) l.operand l.changes (omega arith))
