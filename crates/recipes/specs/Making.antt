-- Terms of private functions' contracts: an operand's field, the translator's parts, and what a run tells of the flags. No contract of a
-- public function names anything of this page, and a reader can leave it out. Assumes nothing.
use Rattle.std.specs.Prelude.{Bool, cond, ◌&&◌, Option, Some, None, Result, Ok, Err, List, [], ◌∷◌, ℕ, ◌+◌, ◌-◌, ◌*◌, ◌/◌, ◌%◌, ◌≤◌, ◌<◌, ◌≡◌, eqb, length}
use Rattle.std.specs.Bool.{then_some}
use Rattle.alu.specs.declared.types.Flags.{Flags}
use Rattle.step.specs.declared.forms.Step.{Step}
use Rattle.step.specs.declared.forms.OneOp.TheVariants.{Clr}
use Rattle.recipes.specs.declared.types.Verb.{Verb}
use Rattle.recipes.specs.declared.types.Line.{Line}
use Rattle.recipes.specs.declared.types.Recipe.{Recipe}
use Rattle.recipes.specs.declared.types.Refused.{Refused}
use Rattle.recipes.specs.declared.lines.Act.{Act}
use Rattle.recipes.specs.declared.lines.Act.TheVariants.{One}
use Rattle.recipes.specs.declared.lines.Way.{Way}
use Rattle.recipes.specs.declared.translator.Job.{Job}
use Rattle.recipes.specs.declared.printer.Operand.{Operand}
use Rattle.text.specs.Text.{ascii, decimal_of}
use Rattle.recipes.specs.Recipe.{lines_max, way_of, target, recipe_lines, Names, Accepted}
use Rattle.recipes.specs.Listing.{step_of, steps_at, steps_of, lines_pass, tested}

-- ---- printing

-- an operand's field: a mark and a number, or none
abbrev pub operand_bytes : Operand → List ℕ
operand_bytes o = o.0 ∷ decimal_of o.1

abbrev pub operand_text : Option Operand → List ℕ
operand_text (Some o) = operand_bytes o
operand_text None = ascii "-"

-- ---- one step of a line

-- the steps at one register
abbrev pub steps_by : Way → ℕ
steps_by way = cond way.clears 2 1

abbrev pub act_at : Way → (first : Bool) → (part : ℕ) → Act
act_at way first part = cond (way.clears && eqb part 0) (One Clr) (cond first way.first way.other)

-- which of a number's w registers is the i-th that is taken
abbrev pub offset_of : Way → (w i : ℕ) → ℕ
offset_of way w i = cond way.falls (w - 1 - i) i

-- what the steps of a line have in common
abbrev pub job_of : (w : ℕ) → Line → Job
job_of w l = record { width = w; way = way_of l.verb; from = l.a * w; to = target l * w }

-- step j
abbrev pub job_step : Job → (j : ℕ) → Step
job_step b j =
    let s = steps_by b.way in
    let at = offset_of b.way b.width (j / s) in
    step_of (act_at b.way (eqb (j / s) 0) (j % s)) (b.from + at) (b.to + at)

-- there is one, and its registers are among the eight
abbrev pub StepOfJob : Job → (j : ℕ) → Type 0
StepOfJob b j = (b.from + b.width ≤ 8) × ((b.to + b.width ≤ 8) × (j < steps_by b.way * b.width))

-- ---- what the translator tells

abbrev pub judge_lines : (w : ℕ) → List Line → Result ℕ Refused
judge_lines w ls = lines_pass Err (8 / w) 2 ls (Ok (steps_of w ls))

-- a recipe, if there is room for any listing
abbrev pub judge_of : Recipe → Result ℕ Refused
judge_of r = tested Err r (Ok (steps_of r.width (recipe_lines r)))

-- a line that can be laid out, into as many slots as it has steps
pub record Slotted (w : ℕ) (l : Line) (slots : ℕ) : Type 0 where
  pub small : w ≤ 4
  pub named : Names (8 / w) l
  pub all : slots ≡ steps_at l.verb * w

-- lines that can be laid out
pub record Layable (w : ℕ) (ls : List Line) : Type 0 where
  pub small : w ≤ 4
  pub named : Accepted w ls
  pub few : length ls ≤ lines_max

-- ---- what a run tells of the flags

abbrev pub codes_behind : Verb → Flags → Option Flags
codes_behind v f = then_some (way_of v).tells f

-- the last line decides; with no line the flags are as they were
abbrev pub codes_after : List Line → Flags → Option Flags
codes_after [] f = Some f
codes_after (l ∷ []) f = codes_behind l.verb f
codes_after (l ∷ m ∷ ls) f = codes_after (m ∷ ls) f
