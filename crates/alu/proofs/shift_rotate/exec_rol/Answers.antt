-- `exec_rol` meets its contract: the lowest bit of the ring is the last one out.
-- Assumes nothing.
use mathlib.Core.Path.{◌≡◌, ◌∙◌}
use Prim.Native.Nat.{◌+◌, ◌%◌}
use native.Mathlib.Omega.{arith}
use Rattle.alu.specs.Bits.{bits_of}
use Rattle.alu.specs.Shifts.{shift_of, start}
use Rattle.alu.proofs.Bounds.{bits_pos, low_lt}
use Rattle.alu.proofs.Rings.{rol_turns, rotated_answer}
use Rattle.alu.proofs.shift_rotate.exec_rol.Goals as goal

pub returns : goal.returns
unfolding shift_of
returns c =
    let a = c.args in
    let n = bits_of a.size in
    let whole : n + 0 ≡ n = omega arith in
    let shown = rol_turns n (start n a.value a.flags.x) (bits_pos a.size) (low_lt n a.value) (a.shift % 64) in
    rw (c.rotate-value.ensures, c.round.ensures.0, whole, c.of-k.ensures) at c.rotated.ensures ∙
    rotated_answer a.size (a.shift % 64) a.flags.x shown
