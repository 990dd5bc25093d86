-- `lsr` meets its contract: the places move as a quotient.
-- Assumes nothing.
use mathlib.Core.Path.{sym, ap, ◌∙◌}
use Prim.Native.Nat.{ℕ, ◌/◌, ◌^◌}
use Rattle.alu.specs.Bits.{bits_of}
use Rattle.alu.specs.Shifts.{start}
use Rattle.alu.specs.Places.{from_below}
use Rattle.alu.proofs.Bounds.{bits_pos}
use Rattle.alu.proofs.Turns.{lsr_turns}
use Rattle.alu.proofs.shift_rotate.lsr.Goals as goal

pub returns : goal.returns
returns c =
    let a = c.args in
    let n = bits_of a.size in
    c.from_below.ensures ∙ ap (λ (s : ℕ). from_below (s / 2 ^ a.k.count)) c.below_of-places.ensures.0 ∙
    sym (lsr_turns n a.k.count (start n a.value a.x) (bits_pos a.size))
