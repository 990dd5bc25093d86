-- Bounds that the functions' proofs cite.
-- Assumes nothing.
use Prim.Native.Nat.{ℕ, zero, suc, ◌+◌, ◌-◌, ◌≤◌, ◌<◌, ◌^◌}
use mathlib.Core.Bool.{Bool, true, false}
use native.Mathlib.Nat.{mod-lt}
use native.Mathlib.Omega.{arith}
use lib.Dec.{lit<, lit≤}
use lib.Pow.{pow_pos}
use Rattle.alu.specs.declared.types.Size.{Size}
use Rattle.alu.specs.declared.types.Size.TheVariants.{Byte, Word, Long}
use Rattle.alu.specs.declared.types.Verdict.{Verdict}
use Rattle.alu.specs.declared.types.Verdict.TheVariants.{Accepted, BadCount, NoSuchSize}
use Rattle.alu.specs.declared.types.Check.{Check}
use Rattle.alu.specs.declared.types.Check.TheVariants.{Pass, Over, Short, Below}
use Rattle.alu.specs.Bits.{bits_of, low, digit, raised}
use Rattle.alu.specs.Answers.{number_of, class_of, figure}

-- a size has from 1 to 32 bits
pub bits_pos : (size : Size) → 0 < bits_of size
bits_pos Byte = lit< tt
bits_pos Word = lit< tt
bits_pos Long = lit< tt

pub bits_le : (size : Size) → bits_of size ≤ 32
bits_le Byte = lit≤ tt
bits_le Word = lit≤ tt
bits_le Long = lit≤ tt

-- no refusal here has a number above 2
pub number_le : (verdict : Verdict) → number_of verdict ≤ 2
number_le Accepted = lit≤ tt
number_le BadCount = lit≤ tt
number_le NoSuchSize = lit≤ tt

-- CHK's classes are numbered from 0 to 3
pub class_le : (check : Check) → class_of check ≤ 3
class_le Pass = lit≤ tt
class_le Over = lit≤ tt
class_le Short = lit≤ tt
class_le Below = lit≤ tt

-- what holds of 0 and of 1 holds of every number below 2
pub below_2 : (P : ℕ → Type 0) → P 0 → P 1 → (r : ℕ) → r < 2 → P r
below_2 P at-0 at_1 zero r<2 = at-0
below_2 P at-0 at_1 (suc zero) r<2 = at_1
below_2 P at-0 at_1 (suc (suc r)) r<2 = absurd (let none : ⊥ = omega arith in none)

pub digit_le : (b : Bool) → digit b ≤ 1
digit_le true = lit≤ tt
digit_le false = lit≤ tt

pub low_lt : (n x : ℕ) → low n x < 2 ^ n
low_lt n x = mod-lt x (pow_pos n)

pub raised_lt : (n x : ℕ) → raised n x < 2 ^ n
unfolding raised
raised_lt n x = mod-lt (x + 2 ^ (n - 1)) (pow_pos n)

-- a clock figure is no more than the greater of its two numbers
pub figure_le : (size : Size) (short long most : ℕ) → short ≤ most → long ≤ most → figure size short long ≤ most
figure_le Byte short long most s l = s
figure_le Word short long most s l = s
figure_le Long short long most s l = l
