-- Recipes: document 01, "Recipes" and "Refusal numbers", with document 02, item 1. The verbs, and what a line may hold. Assumes nothing.
use Rattle.std.specs.Prelude.{ℕ, ◌/◌, ◌<◌, Bool, true, false, cond, ◌||◌, ◌&&◌, Result, Ok, Err, List, [], ◌∷◌, ◌≡◌, eqb, leb, take}
use Rattle.alu.specs.declared.shift_rotate.ShiftOp.TheVariants.{Asr, Lsl, Lsr, Roxl, Roxr}
use Rattle.step.specs.declared.forms.TwoOp.TheVariants as TwoOp
use Rattle.step.specs.declared.forms.OneOp.TheVariants as OneOp
use Rattle.recipes.specs.declared.types.Verb.{Verb}
use Rattle.recipes.specs.declared.types.Verb.TheVariants.{Clear, Copy, Add, Sub, Neg, Not, Halve, Down, Up}
use Rattle.recipes.specs.declared.types.Line.{Line}
use Rattle.recipes.specs.declared.types.Recipe.{Recipe}
use Rattle.recipes.specs.declared.types.Refusal.{Refusal}
use Rattle.recipes.specs.declared.types.Refusal.TheVariants.{WidthLine, NoSuchNumber, OntoItself, TooManyLines, NoSpace, UnknownVerb, WrongFields, NotADigit, NoNewline}
use Rattle.recipes.specs.declared.types.Refused.{Refused}
use Rattle.recipes.specs.declared.lines.Act.{Act}
use Rattle.recipes.specs.declared.lines.Act.TheVariants.{One, Two, Shift}
use Rattle.recipes.specs.declared.lines.Way.{Way}

-- the most lines of a recipe
abbrev pub lines_max : ℕ
lines_max = 32

-- the refusal numbers of documents 01 and 02
abbrev pub number_of : Refusal → ℕ
number_of WidthLine = 4
number_of NoSuchNumber = 6
number_of OntoItself = 7
number_of TooManyLines = 8
number_of NoSpace = 9
number_of UnknownVerb = 11
number_of WrongFields = 12
number_of NotADigit = 13
number_of NoNewline = 14

-- a refusal with its text line and its column, in bytes; both count from 1. The line is 0 where none is to blame, the column of every number but 11 to 14
abbrev pub at_column : Refusal → (line column : ℕ) → Refused
at_column k line column = record { refusal = k; line = line; column = column }

abbrev pub at_line : Refusal → (line : ℕ) → Refused
at_line k line = at_column k line 0

-- ---- verbs: a row for each

abbrev pub way : (takes_two clears : Bool) → (first other : Act) → (falls tells : Bool) → Way
way takes clears first other falls tells =
    record { takes_two = takes; clears = clears; first = first; other = other; falls = falls; tells = tells }

-- whether a verb takes two numbers; whether a CLR stands before each of its steps; its step at the first register that it takes, and at each other;
-- whether it takes the highest register first; whether all five flags behind it are told, as those of the whole number
abbrev pub way_of : Verb → Way
-- columns: takes two | CLR before each | first step | other steps | highest first | flags told
way_of Clear = way false false (One OneOp.Clr) (One OneOp.Clr) false false
way_of Copy = way true true (Two TwoOp.Add) (Two TwoOp.Add) false false
way_of Add = way true false (Two TwoOp.Add) (Two TwoOp.Addx) false true
way_of Sub = way true false (Two TwoOp.Sub) (Two TwoOp.Subx) false true
way_of Neg = way false false (One OneOp.Neg) (One OneOp.Negx) false true
way_of Not = way false false (One OneOp.Not) (One OneOp.Not) false false
way_of Halve = way false false (Shift Asr) (Shift Roxr) true false
way_of Down = way false false (Shift Lsr) (Shift Roxr) true false
way_of Up = way false false (Shift Lsl) (Shift Roxl) false false

abbrev pub takes_two : Verb → Bool
takes_two v = (way_of v).takes_two

-- copy alone has a CLR before each of its steps
abbrev pub is_copy : Verb → Bool
is_copy v = (way_of v).clears

-- ---- lines

-- the number that a line changes
abbrev pub goal_of : Way → Line → ℕ
goal_of y l = cond y.takes_two l.b l.a

abbrev pub target : Line → ℕ
target l = goal_of (way_of l.verb) l

-- a width, and the lines of a recipe that count
abbrev pub is_width : ℕ → Bool
is_width w = (eqb w 1 || eqb w 2) || eqb w 4

abbrev pub recipe_lines : Recipe → List Line
recipe_lines r = take r.count r.lines

-- what the slots past a recipe's lines hold, as the reader leaves them: `clear 0`
abbrev pub unused : Line
unused = record { verb = Clear; a = 0; b = 0 }

-- whether a line may stand in a recipe of n numbers, or why not: 6 where it names a number that isn't there, then 7 where it copies a number onto itself
unfoldable pub line_refusal : (n : ℕ) → Line → Result (Unit {0}) Refusal
line_refusal n l =
    cond (leb n l.a || leb n (target l)) (Err NoSuchNumber)
    (cond (is_copy l.verb && eqb l.a (target l)) (Err OntoItself) (Ok tt))

-- the same as a property: the source and the target of a line that passes are numbers, and it copies none onto itself (`passes_names` and
-- `names_pass` of proofs/Accepting)
pub record Names (n : ℕ) (l : Line) : Type 0 where
  pub source : l.a < n
  pub goal : target l < n
  pub apart : l.verb ≡ Copy → l.a ≡ target l → ⊥

-- the lines of an accepted recipe of width w
abbrev pub Accepted : (w : ℕ) → List Line → Type 0
Accepted w [] = Unit {0}
Accepted w (l ∷ ls) = Names (8 / w) l × Accepted w ls
