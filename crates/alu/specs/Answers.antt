-- Answers: what an accepted and what a refused operation hands back, document 01's number of each verdict, figures and numbers of CHK's classes.
-- Assumes nothing.
use Rattle.std.specs.Prelude.{ℕ}
use Rattle.alu.specs.declared.types.Size.{Size}
use Rattle.alu.specs.declared.types.Size.TheVariants.{Byte, Word, Long}
use Rattle.alu.specs.declared.types.Flags.{Flags}
use Rattle.alu.specs.declared.types.Verdict.{Verdict}
use Rattle.alu.specs.declared.types.Verdict.TheVariants.{Accepted, BadCount, NoSuchSize}
use Rattle.alu.specs.declared.types.Answer.{Answer}
use Rattle.alu.specs.declared.types.Check.{Check}
use Rattle.alu.specs.declared.types.Check.TheVariants.{Pass, Over, Short, Below}
use Rattle.alu.specs.declared.types.Checked.{Checked}

-- document 01's refusal numbers; 0 where nothing is refused
abbrev pub number_of : Verdict → ℕ
number_of Accepted = 0
number_of BadCount = 1
number_of NoSuchSize = 2

-- an accepted answer
abbrev pub accepted : (result : ℕ) → Flags → (clocks : ℕ) → Answer
accepted result flags clocks = record { verdict = Accepted; result = result; flags = flags; clocks = clocks }

-- a refusal: result 0, figure 0, the flags as they came
abbrev pub refused : Verdict → Flags → Answer
refused verdict flags = record { verdict = verdict; result = 0; flags = flags; clocks = 0 }

-- the answer with another clock figure
abbrev pub refigured : Answer → (clocks : ℕ) → Answer
refigured a clocks = record { verdict = a.verdict; result = a.result; flags = a.flags; clocks = clocks }

-- a clock figure: `short` for byte and word, `long` for long
abbrev pub figure : Size → (short long : ℕ) → ℕ
figure Byte short long = short
figure Word short long = short
figure Long short long = long

-- an operation without a byte form: byte is refused
abbrev pub unless_byte : Size → Flags → Answer → Answer
unless_byte Byte flags answer = refused NoSuchSize flags
unless_byte Word flags answer = answer
unless_byte Long flags answer = answer

-- an operation with the long form alone: byte and word are refused
abbrev pub only_long : Size → Flags → Answer → Answer
only_long Byte flags answer = refused NoSuchSize flags
only_long Word flags answer = refused NoSuchSize flags
only_long Long flags answer = answer

-- CHK's figure: of a trap it is the internal clocks alone (Pass has 6 of them in its 10)
abbrev pub chk_figure : Check → ℕ
chk_figure Pass = 10
chk_figure Over = 8
chk_figure Short = 8
chk_figure Below = 10

-- CHK's classes by number: our own, document 01 has none. 0 is no trap
abbrev pub class_of : Check → ℕ
class_of Pass = 0
class_of Over = 1
class_of Short = 2
class_of Below = 3

-- CHK has the word form alone: byte and long are refused, with Pass
abbrev pub only_word : Size → Flags → Checked → Checked
only_word Byte flags checked = record { check = Pass; answer = refused NoSuchSize flags }
only_word Word flags checked = checked
only_word Long flags checked = record { check = Pass; answer = refused NoSuchSize flags }
