-- What the functions for Rust and C leave behind: the rows that they are lent, and what they tell, in a row of eight numbers. Assumes nothing.
use Rattle.std.specs.Prelude.{ℕ, ◌*◌, ◌/◌, min, Bool, Option, Some, None, Result, Ok, Err, List, [], ◌∷◌, ◌++◌, map, length, take, drop, replicate}
use Rattle.std.specs.List.{flat_map}
use Rattle.alu.specs.Bits.{digit}
use Rattle.alu.specs.declared.types.Flags.{Flags}
use Rattle.alu.specs.ConditionCodes.{flags_of, ccr_of}
use Rattle.step.specs.declared.registers.State.{State}
use Rattle.step.specs.declared.forms.Step.{Step}
use Rattle.step.specs.declared.runs.Ran.{Ran}
use Rattle.step.specs.Perform.{perform_of}
use Rattle.step.specs.Run.{run_of, end_numbers, end_line}
use Rattle.step.specs.Rack.{Plan, fit_number, boxes_of, plan_of, runs_of}
use Rattle.recipes.specs.declared.types.Refused.{Refused}
use Rattle.recipes.specs.declared.types.Recipe.{Recipe}
use Rattle.recipes.specs.declared.types.RecipeRun.{RecipeRun}
use Rattle.recipes.specs.Recipe.{number_of}
use Rattle.recipes.specs.Reader.{read_of}
use Rattle.step.specs.Lent.{over}
use Rattle.recipes.specs.Listing.{blank, Translated, translated, translate_of}
use Rattle.recipes.specs.Demand.{text_run_of}
use Rattle.recipe_calls.specs.Words.{first_of, step_word}

-- ---- rows that are left

-- a row of numbers that is filled, and what is told beside it
pub record RowLeft : Type 0 where
  pub row : List ℕ
  pub told : List ℕ

-- a register set, and what is told
pub record StateLeft : Type 0 where
  pub d : List ℕ
  pub a : List ℕ
  pub flags : ℕ
  pub told : List ℕ

abbrev pub row_left : (row told : List ℕ) → RowLeft
row_left row told = record { row = row; told = told }

abbrev pub state_left : (d a : List ℕ) → (flags : ℕ) → (told : List ℕ) → StateLeft
state_left d a flags told = record { d = d; a = a; flags = flags; told = told }

-- ---- recipe_translate: the listing; refusal number, text line, number of steps, column

abbrev pub translation_told : Result ℕ Refused → List ℕ
translation_told (Ok steps) = 0 ∷ 0 ∷ steps ∷ 0 ∷ 0 ∷ 0 ∷ 0 ∷ 0 ∷ []
translation_told (Err k) = number_of k.refusal ∷ k.line ∷ 0 ∷ k.column ∷ 0 ∷ 0 ∷ 0 ∷ 0 ∷ []

-- a text translated into a row of slots; a text that is refused leaves them
abbrev pub text_listed : (slots : List Step) → Result Recipe Refused → Translated
text_listed slots (Ok r) = translate_of r slots
text_listed slots (Err k) = translated (Err k) slots

-- the first so many slots are a translation's steps; where it refuses there are none
abbrev pub steps_in : Result ℕ Refused → (slots : List Step) → List Step
steps_in (Ok count) slots = take count slots
steps_in (Err k) slots = []

-- the words of its steps go to the front of the row that is lent
abbrev pub listed_in : (listing : List ℕ) → Translated → RowLeft
listed_in listing t = row_left (over (map step_word (steps_in t.told t.slots)) listing) (translation_told t.told)

-- the translation has as many slots as that row
abbrev pub translate_words : (text listing : List ℕ) → RowLeft
translate_words text listing = listed_in listing (text_listed (replicate (length listing) blank) (read_of text))

-- ---- listing_run: the registers and flags; the end by its numbers (`end_numbers` of the crate step), next place, steps, clocks, and the end's text line

abbrev pub state_of : (d a : List ℕ) → (flags : ℕ) → State
state_of d a flags = record { d = d; a = a; flags = flags_of flags }

abbrev pub ran_told : Ran → List ℕ
ran_told r = end_numbers r.end ++ (r.next ∷ r.steps ∷ r.clocks ∷ end_line r.end ∷ 0 ∷ [])

abbrev pub ran_left : Ran → StateLeft
ran_left r = state_left r.state.d r.state.a (ccr_of r.state.flags) (ran_told r)

abbrev pub run_words : (listing d a : List ℕ) → (flags start budget : ℕ) → StateLeft
run_words listing d a flags start budget = ran_left (run_of perform_of (first_of listing) (state_of d a flags) start budget)

-- ---- rack_run: of each box eight words of `d` and of `a`, its flags, and eight words of `answers`, as `listing_run` tells them; refusal number, number of boxes

-- the register sets, one for each of the flags
abbrev pub sets_of : (d a flags : List ℕ) → List State
sets_of d a [] = []
sets_of d a (f ∷ flags) = state_of (take 8 d) (take 8 a) f ∷ sets_of (drop 8 d) (drop 8 a) flags

-- a rack's rows, and what is told
pub record RackLeft : Type 0 where
  pub d : List ℕ
  pub a : List ℕ
  pub flags : List ℕ
  pub answers : List ℕ
  pub told : List ℕ

abbrev pub rack_left : (d a flags answers told : List ℕ) → RackLeft
rack_left d a flags answers told = record { d = d; a = a; flags = flags; answers = answers; told = told }

-- the refusal number, and the number of boxes that are run
abbrev pub rack_told : Plan → List ℕ
rack_told plan = fit_number plan ∷ boxes_of plan ∷ 0 ∷ 0 ∷ 0 ∷ 0 ∷ 0 ∷ 0 ∷ []

-- as a rack of the crate step, by its plan: what the runs leave, one behind the other
abbrev pub rack_by : (listing d a flags starts : List ℕ) → (budget : ℕ) → (answers : List ℕ) → Plan → RackLeft
rack_by listing d a flags starts budget answers plan =
    let runs = runs_of perform_of (first_of listing) (take (boxes_of plan) (sets_of d a flags)) starts budget in
    rack_left (over (flat_map (λ r. r.state.d) runs) d) (over (flat_map (λ r. r.state.a) runs) a) (over (map (λ r. ccr_of r.state.flags) runs) flags)
    (over (flat_map ran_told runs) answers) (rack_told plan)

-- each row has as many slots as it has eights of words: one whose row of registers is too short is refused too
abbrev pub rack_words : (listing d a flags starts : List ℕ) → (budget : ℕ) → (answers : List ℕ) → RackLeft
rack_words listing d a flags starts budget answers =
    rack_by listing d a flags starts budget answers (plan_of (length flags) (length starts) (min (min (length d) (length a)) (length answers) / 8))

-- ---- recipe_run: the registers and flags; refusal number, text line, a mask of the flags that are promised, steps, clocks, column

-- all five, or X alone (16)
abbrev pub promised_of : Option Flags → ℕ
promised_of None = 16
promised_of (Some f) = 31

-- a flag that is not promised is left 0
abbrev pub ccr_after : (x : Bool) → Option Flags → ℕ
ccr_after x None = digit x * 16
ccr_after x (Some f) = ccr_of f

-- a refusal leaves the state s and takes no step: all its flags are promised, as they were
abbrev pub recipe_told : (s : State) → Result RecipeRun Refused → StateLeft
recipe_told s (Ok r) = state_left r.d r.a (ccr_after r.x r.codes) (0 ∷ 0 ∷ promised_of r.codes ∷ r.steps ∷ r.clocks ∷ 0 ∷ 0 ∷ 0 ∷ [])
recipe_told s (Err k) = state_left s.d s.a (ccr_of s.flags) (number_of k.refusal ∷ k.line ∷ promised_of (Some s.flags) ∷ 0 ∷ 0 ∷ k.column ∷ 0 ∷ 0 ∷ [])

abbrev pub recipe_run_words : (text d a : List ℕ) → (flags : ℕ) → StateLeft
recipe_run_words text d a flags = let s = state_of d a flags in recipe_told s (text_run_of text s)
