-- `add` meets its contract: the sum of the masked operands, cut, with its flags.
-- Assumes nothing.
use mathlib.Core.Path.{◌∙◌}
use Prim.Native.Nat.{◌+◌}
use lib.Bits.{and_mask}
use Rattle.alu.specs.Bits.{bits_of, low, digit}
use Rattle.alu.specs.Arith.{sum}
use Rattle.alu.proofs.Bounds.{bits_pos, bits_le, low_lt}
use Rattle.alu.proofs.Bitwise.{low_mask}
use Rattle.alu.proofs.Whole.{add_worked}
use Rattle.alu.proofs.integer_arith.add.Goals as goal

pub returns : goal.returns
unfolding sum
returns c =
    let a = c.args in
    let n = bits_of a.size in
    let w-is = c.width-w.ensures in
    let whole = low n a.dst + low n a.src + digit a.x in
    (rw (c.from.ensures, c.from-2.ensures, c.from-3.ensures, c.from-4.ensures, w-is, and_mask a.src n, and_mask a.dst n, low_mask n whole (bits_le a.size)) at (c.sum_of.ensures n w-is)) (low_lt n whole) ∙
    add_worked n (bits_pos a.size) a.src a.dst a.x
