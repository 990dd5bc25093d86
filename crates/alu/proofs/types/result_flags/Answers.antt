-- `result_flags` meets its contract: the flags of the masked result are those of the result.
-- Assumes nothing.
use mathlib.Core.Path.{◌∙◌}
use native.Mathlib.Nat.{mod-mod}
use Prim.Native.Nat.{◌^◌}
use lib.Bits.{and_mask, mask_lt}
use Rattle.alu.specs.Bits.{bits_of}
use Rattle.alu.proofs.Bounds.{bits_pos}
use Rattle.alu.proofs.Turns.{top_low}
use Rattle.alu.proofs.types.result_flags.Goals as goal

pub returns : goal.returns
returns c =
    let a = c.args in
    let n = bits_of a.size in
    let w-is = c.width-w.ensures in
    c.width_flags.ensures n w-is (rw w-is (mask_lt a.res n)) ∙
    rw (w-is, and_mask a.res n, top_low n a.res (bits_pos a.size), mod-mod a.res (2 ^ n))
