-- `lsl` meets its contract: the places move as a product.
-- Assumes nothing.
use native.Mathlib.Omega.{arith}
use mathlib.Core.Path.{sym, ap, ◌∙◌}
use Prim.Native.Nat.{ℕ, ◌*◌, ◌%◌, ◌^◌}
use Rattle.alu.specs.Bits.{bits_of}
use Rattle.alu.specs.Shifts.{start}
use Rattle.alu.specs.Places.{above, from_above}
use Rattle.alu.proofs.Bounds.{bits_pos, bits_le, low_lt}
use Rattle.alu.proofs.Turns.{from_above_64, lsl_turns}
use Rattle.alu.proofs.shift_rotate.lsl.Goals as goal

pub returns : goal.returns
returns c =
    let a = c.args in
    let n = bits_of a.size in
    let h = start n a.value a.x in
    c.from_above.ensures ∙ ap (λ (s : ℕ). from_above n (s * 2 ^ a.k.count % 2 ^ 64)) c.above_of-places.ensures.0 ∙
    from_above_64 n (above n h * 2 ^ a.k.count) (omega (arith, bits_le a.size)) ∙
    sym (lsl_turns n a.k.count h (bits_pos a.size) (low_lt n a.value))
