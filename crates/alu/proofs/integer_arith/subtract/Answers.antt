-- `subtract` meets its contract: the difference of the masked operands, cut, with its flags.
-- Assumes nothing.
use mathlib.Core.Path.{◌∙◌}
use Prim.Native.Nat.{◌+◌, ◌-◌, ◌^◌}
use lib.Bits.{and_mask}
use Rattle.alu.specs.Bits.{bits_of, low, digit}
use Rattle.alu.proofs.Bounds.{bits_pos, bits_le}
use Rattle.alu.proofs.Laws.{difference_lt}
use Rattle.alu.proofs.Bitwise.{low_mask}
use Rattle.alu.proofs.Whole.{difference_masked, sub_worked}
use Rattle.alu.proofs.integer_arith.subtract.Goals as goal

pub returns : goal.returns
returns c =
    let a = c.args in
    let n = bits_of a.size in
    let w-is = c.width-w.ensures in
    let whole = 2 ^ 32 + low n a.dst - (low n a.src + digit a.x) in
    (rw (c.from.ensures, c.from-2.ensures, c.from-3.ensures, c.from-4.ensures, w-is, and_mask a.src n, and_mask a.dst n, low_mask n whole (bits_le a.size), difference_masked a.size a.src a.dst a.x) at (c.sum_of.ensures n w-is)) (difference_lt n a.src a.dst a.x) ∙
    sub_worked n (bits_pos a.size) a.src a.dst a.x
