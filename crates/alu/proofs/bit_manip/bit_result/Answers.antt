-- `bit_result` meets its contract: the complement of the bit's weight clears it.
-- Assumes nothing.
use native.Mathlib.Omega.{arith}
use Rattle.alu.proofs.Bitops.{clear_bit}
use Rattle.alu.proofs.bit_manip.bit_result.Goals as goal

pub returns-in-Bclr : goal.returns-in-Bclr
returns-in-Bclr c k k<32 w-is = rw (c.in-Bclr.is, w-is) (clear_bit 32 k c.args.value k<32 (omega arith))
