-- Document 01, "Proved sums": every row of the table holds, whatever the flags before.
-- Assumes nothing.
use mathlib.Core.Bool.{xor}
use lib.Dec.{T}
use Rattle.alu.specs.Bits.{top, signed}
use Rattle.alu.specs.ConditionCodes.{add_flags, sub_flags, neg_flags}
use Rattle.alu.specs.Arith.{sum, difference, check_of}
use Rattle.alu.specs.Shifts.{turn, turns, changed, shift_of}
use Rattle.alu.specs.Sums.{table, every, holds, holds_at, answers, found, at_both, always}

pub sums : T (every holds table)
unfolding table every holds holds_at answers found at_both always top signed sum difference check_of add_flags sub_flags neg_flags xor turn turns changed shift_of
sums = tt
