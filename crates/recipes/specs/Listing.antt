-- The listing that a recipe is translated to: document 01, "Recipes" and "Refusal numbers", with document 02, item 4. Assumes nothing.
use Rattle.std.specs.Prelude.{ℕ, zero, suc, ◌+◌, ◌*◌, ◌/◌, Bool, false, cond, Result, Ok, Err, List, [], ◌∷◌, ◌++◌, map, leb, length, replicate, take}
use Rattle.alu.specs.declared.types.Size.TheVariants.{Long}
use Rattle.step.specs.declared.registers.State.{State}
use Rattle.step.specs.declared.forms.OneOp.TheVariants.{Clr}
use Rattle.step.specs.declared.forms.Count.TheVariants.{Small}
use Rattle.step.specs.declared.forms.Form.{Form}
use Rattle.step.specs.declared.forms.Step.{Step}
use Rattle.step.specs.Perform.{perform_of}
use Rattle.step.specs.Run.{array_slots}
use Rattle.step.specs.Lent.{over}
use Rattle.step.specs.Lines.{with_line}
use Rattle.recipes.specs.declared.types.Verb.{Verb}
use Rattle.recipes.specs.declared.types.Line.{Line}
use Rattle.recipes.specs.declared.types.Recipe.{Recipe}
use Rattle.recipes.specs.declared.types.Refusal.{Refusal}
use Rattle.recipes.specs.declared.types.Refusal.TheVariants.{WidthLine, TooManyLines, NoSpace}
use Rattle.recipes.specs.declared.types.Refused.{Refused}
use Rattle.recipes.specs.declared.types.Listing.{Listing}
use Rattle.recipes.specs.declared.lines.Act.{Act}
use Rattle.recipes.specs.declared.lines.Act.TheVariants.{One, Two, Shift}
use Rattle.recipes.specs.Recipe.{lines_max, at_line, way_of, is_copy, target, is_width, recipe_lines, line_refusal}

-- ---- the steps: all are long, from data register p to data register q; a shift is by #1. They get their text lines below

abbrev pub long : Form → Step
long form = record { size = Long; form = form; line = 0 }

abbrev pub form_of : Act → (p q : ℕ) → Form
form_of (One op) p q = Form.One op (record { 0 = q })
form_of (Two op) p q = Form.Two op (record { 0 = p }) (record { 0 = q })
form_of (Shift op) p q = Form.Shift op (Small 1) (record { 0 = q })

abbrev pub step_of : Act → (p q : ℕ) → Step
step_of act p q = long (form_of act p q)

abbrev pub clr_step : (q : ℕ) → Step
clr_step q = step_of (One Clr) q q

-- a verb's step at the first register that it takes, and at each other
abbrev pub first_step : Verb → (p q : ℕ) → Step
first_step v p q = step_of (way_of v).first p q

abbrev pub other_step : Verb → (p q : ℕ) → Step
other_step v p q = step_of (way_of v).other p q

-- the steps at one register: a copy has a CLR before its ADD
abbrev pub with_clr : Verb → (q : ℕ) → Step → List Step
with_clr v q k = cond (is_copy v) (clr_step q ∷ k ∷ []) (k ∷ [])

-- lowest register first, but halve and down highest first
abbrev pub highest_first : Verb → Bool
highest_first v = (way_of v).falls

-- ---- a line: n registers from p and q on

-- lowest first: those after the first, and all of them
unfoldable pub rising_rest : Verb → (n p q : ℕ) → List Step
rising_rest v zero p q = []
rising_rest v (suc n) p q = with_clr v q (other_step v p q) ++ rising_rest v n (suc p) (suc q)

abbrev pub rising : Verb → (n p q : ℕ) → List Step
rising v zero p q = []
rising v (suc n) p q = with_clr v q (first_step v p q) ++ rising_rest v n (suc p) (suc q)

-- highest first
unfoldable pub falling_rest : Verb → (n p q : ℕ) → List Step
falling_rest v zero p q = []
falling_rest v (suc n) p q = with_clr v (q + n) (other_step v (p + n) (q + n)) ++ falling_rest v n p q

abbrev pub falling : Verb → (n p q : ℕ) → List Step
falling v zero p q = []
falling v (suc n) p q = with_clr v (q + n) (first_step v (p + n) (q + n)) ++ falling_rest v n p q

-- number k of width w is the registers from D(kw) on
unfoldable pub line_steps : (w : ℕ) → Line → List Step
line_steps w l =
    cond (highest_first l.verb) (falling l.verb w (l.a * w) (target l * w)) (rising l.verb w (l.a * w) (target l * w))

-- ---- a recipe of width w

unfoldable pub listing_of : (w : ℕ) → List Line → List Step
listing_of w [] = []
listing_of w (l ∷ ls) = line_steps w l ++ listing_of w ls

-- Document 02, item 4: each step carries the text line that it comes from. The first of these lines is text line n; a recipe's is 2
unfoldable pub numbered_of : (w n : ℕ) → List Line → List Step
numbered_of w n [] = []
numbered_of w n (l ∷ ls) = map (with_line n) (line_steps w l) ++ numbered_of w (suc n) ls

-- document 01's number of steps: w for a line, 2w for a copy (`listing_steps` of proofs/Steps: it is the listing's length)
abbrev pub steps_at : Verb → ℕ
steps_at v = cond (is_copy v) 2 1

unfoldable pub steps_of : (w : ℕ) → List Line → ℕ
steps_of w [] = 0
steps_of w (l ∷ ls) = steps_at l.verb * w + steps_of w ls

-- the most steps of a recipe (`steps_few` of proofs/Demand: none has more). An array has slots for them
abbrev pub steps_max : ℕ
steps_max = 256

-- ---- clock figures

-- A step's figure, as the step machine gives it from cleared registers and flags. A step of an accepted recipe's listing has this figure in every state
-- (`listing_legal`, `figure_same` of proofs/Legal): 8 for ADD, ADDX, SUB and SUBX, 6 for CLR, NEG, NEGX and NOT, 10 for a shift. Of any other step it is
-- the figure at rest: 0 where it is refused, a register's count as 0
abbrev pub at_rest : State
at_rest = record { d = replicate 8 0; a = replicate 8 0; flags = record { x = false; n = false; z = false; v = false; c = false } }

unfoldable pub figure_of : Step → ℕ
figure_of k = (perform_of at_rest k).clocks

-- the sum of the figures
unfoldable pub clocks_of : List Step → ℕ
clocks_of [] = 0
clocks_of (k ∷ ks) = figure_of k + clocks_of ks

-- ---- the translator's tests, in document 01's order: 4 (line 1); too many lines, 8 (line 0); 6 and 7 on each line. `refuse k` is what a
-- refusal answers, and `go` what is answered when all are passed

module _ {R : Type 0} (refuse : Refused → R) where
  -- a line of this text line that passes, or doesn't
  abbrev pub or_refused : Result (Unit {0}) Refusal → (line : ℕ) → (go : R) → R
  or_refused (Ok passed) line go = go
  or_refused (Err k) line go = refuse (at_line k line)

  -- the lines in turn, in a recipe of n numbers; the first has this text line
  unfoldable pub lines_pass : (n line : ℕ) → List Line → (go : R) → R
  lines_pass n line [] go = go
  lines_pass n line (l ∷ ls) go = or_refused (line_refusal n l) line (lines_pass n (suc line) ls go)

  abbrev pub tested : Recipe → (go : R) → R
  tested r go =
      cond (is_width r.width)
      (cond (leb r.count lines_max) (lines_pass (8 / r.width) 2 (recipe_lines r) go) (refuse (at_line TooManyLines 0)))
      (refuse (at_line WidthLine 1))

-- ---- the translation, into a row of slots

-- what the translator tells, the number of steps or why there are none, and what the slots hold then
pub record Translated : Type 0 where
  pub told : Result ℕ Refused
  pub slots : List Step

abbrev pub translated : Result ℕ Refused → (slots : List Step) → Translated
translated told slots = record { told = told; slots = slots }

-- a refusal leaves the slots; 9 (line 0) where there are too few of them for the steps
unfoldable pub translate_of : Recipe → (slots : List Step) → Translated
translate_of r slots =
    let refuse : Refused → Translated = λ k. translated (Err k) slots in
    let w = r.width in
    let ls = recipe_lines r in
    tested refuse r
    (cond (leb (steps_of w ls) (length slots)) (translated (Ok (steps_of w ls)) (over (numbered_of w 2 ls) slots)) (refuse (at_line NoSpace 0)))

-- the blank slots of an array. A blank slot holds a step on D255, of no line, which the machine refuses
abbrev pub blank : Step
blank = clr_step 255

abbrev pub blanks : List Step
blanks = replicate array_slots blank

-- the translation in an array, by value: with a refusal there is none
abbrev pub listed : (count : ℕ) → List Step → Listing
listed count steps = record { count = count; steps = steps }

-- its steps: the first `count` of its slots, or all where it has no more
abbrev pub used_slots : Listing → List Step
used_slots l = take l.count l.steps

abbrev pub listing_in : Translated → Result Listing Refused
listing_in t = elim t.told [ Ok count ↦ Ok (listed count t.slots) | Err k ↦ Err k ]

abbrev pub array_of : Recipe → Result Listing Refused
array_of r = listing_in (translate_of r blanks)
