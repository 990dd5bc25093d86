-- `roxr` meets its contract: the ring of the bits and X goes round.
-- Assumes nothing.
use mathlib.Core.Path.{sym, ap, ◌∙◌}
use Rattle.alu.specs.Bits.{bits_of}
use Rattle.alu.specs.Shifts.{start}
use Rattle.alu.specs.Places.{from_below}
use Rattle.alu.proofs.Bounds.{bits_pos, low_lt}
use Rattle.alu.proofs.Rings.{roxr_turns}
use Rattle.alu.proofs.shift_rotate.roxr.Goals as goal

pub returns : goal.returns
returns c =
    let a = c.args in
    let n = bits_of a.size in
    let ring = rw (c.bits-places.ensures.0, c.round.ensures.0, c.below_of-ring.ensures.0) at c.turned_left.ensures.0 in
    c.from_below.ensures ∙ ap from_below ring ∙ sym (roxr_turns n (start n a.value a.x) (bits_pos a.size) (low_lt n a.value) a.k)
