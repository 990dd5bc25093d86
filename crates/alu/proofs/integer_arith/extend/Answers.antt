-- `extend` meets its contract: 2 ^ 32 and the signed reading, cut, are the filled bits.
-- Assumes nothing.
use Rattle.alu.specs.Bits.{bits_of}
use Rattle.alu.proofs.Bounds.{bits_pos, bits_le}
use Rattle.alu.proofs.Extension.{extended_whole}
use Rattle.alu.proofs.integer_arith.extend.Goals as goal

pub returns : goal.returns
returns c =
    let start = c.before.before.before in
    let a = start.args in
    rw (← (extended_whole (bits_of a.from) (bits_of a.to) (bits_pos a.from) start.requires a.x (bits_le a.to)), ← c.half.ensures.0, ← c.raised.ensures, ← c.from.ensures) c.masked.ensures
