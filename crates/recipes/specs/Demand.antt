-- Demand 3 (docs/PROMISES.md lists the three): any accepted recipe, run whole or halted after any step and continued, ends with each number and X exactly as document 01's rule says, after
-- add, sub and neg with the flags of the whole number, address registers untouched, steps by document 01's formula. First what is promised of runs of the
-- listing (proved in proofs/Demand: `demand_3`, `halted_behind`, `one_by_one`, `from_text`, `each_step`, `each_box`), then what `run_recipe` and `run_text` answer. Assumes nothing.
use Rattle.std.specs.Prelude.{ℕ, ◌+◌, ◌*◌, ◌≤◌, ◌<◌, ◌≡◌, true, Option, Some, None, Result, Ok, Err, IsOk, List, ◌++◌, map, length, get_or, take}
use Rattle.alu.specs.declared.types.Flags.{Flags}
use Rattle.step.specs.declared.registers.State.{State}
use Rattle.step.specs.declared.forms.Step.{Step}
use Rattle.step.specs.declared.runs.End.TheVariants.{Finished}
use Rattle.step.specs.declared.runs.Ran.{Ran}
use Rattle.step.specs.Perform.{perform_of}
use Rattle.step.specs.Parts.{goes_on, run_in_parts, PartsGo, total}
use Rattle.step.specs.Lines.{with_line, bare}
use Rattle.step.specs.declared.racks.Boxed.{Boxed}
use Rattle.step.specs.Rack.{plan_of, state_of, box_in_parts}
use Rattle.recipes.specs.declared.types.Line.{Line}
use Rattle.recipes.specs.declared.types.Recipe.{Recipe}
use Rattle.recipes.specs.declared.types.Refused.{Refused}
use Rattle.recipes.specs.declared.types.RecipeRun.{RecipeRun}
use Rattle.recipes.specs.Recipe.{unused, recipe_lines, Accepted}
use Rattle.recipes.specs.Rule.{radix, numbers_of, registers_of, Account, account_of, rules_of}
use Rattle.recipes.specs.Reader.{read_of}
use Rattle.recipes.specs.Listing.{line_steps, listing_of, steps_at, steps_of, steps_max, clocks_of, tested, translate_of, blank}

-- ---- what a state may say

-- eight registers of 32 bits: every state of the code has them
pub record EightLongs (d : List ℕ) : Type 0 where
  pub count : length d ≡ 8
  pub each : (i : ℕ) → get_or d i 0 < radix

-- all five flags are as told; where nothing is told this asks nothing of them (X is held by itself, in `Ruled`)
abbrev pub Holds : Option Flags → Flags → Type 0
Holds None f = Unit {0}
Holds (Some g) f = f ≡ g

-- from s, a state t came to say r: all numbers in one equation, X, and the flags. No address register has changed, and the data registers still are eight
-- of 32 bits
pub record Ruled (w : ℕ) (r : Account) (s t : State) : Type 0 where
  pub numbers : numbers_of w t.d ≡ r.numbers
  pub x : t.flags.x ≡ r.x
  pub codes : Holds r.codes t.flags
  pub addresses : t.a ≡ s.a
  pub longs : EightLongs t.d

-- a run from the first place has done the lines' steps, and nothing else: the state is by the rule, the next place is behind them. The clocks are those
-- that are printed, with lines or without (`clocks_bare` of proofs/Legal)
pub record Meets (w : ℕ) (ls : List Line) (s : State) (r : Ran) : Type 0 where
  pub rule : Ruled w (rules_of w ls (account_of w s)) s r.state
  pub next : r.next ≡ steps_of w ls
  pub steps : r.steps ≡ steps_of w ls
  pub clocks : r.clocks ≡ clocks_of (listing_of w ls)

-- ---- demand 3

-- a listing is run in parts from its first place, none trapped or refused, to its end, and meets the rule: with a budget b, and then with each of the
-- budgets bs, from the registers, flags and place that the part before left. bs may be empty, and any budget 0
pub record Finishes (w : ℕ) (ls : List Line) (l : List Step) (s : State) (b : ℕ) (bs : List ℕ) : Type 0 where
  pub parts : PartsGo perform_of l s 0 b bs
  pub end : (run_in_parts perform_of l s 0 b bs).end ≡ Finished
  pub meets : Meets w ls s (run_in_parts perform_of l s 0 b bs)

-- Widths 1, 2 and 4 are instances. Each budget of the code has 32 bits; this speaks of every such budget, and of any greater. An accepted recipe has at
-- most `steps_max` steps (`steps_few` of proofs/Demand), so that a single budget of as many is enough for every one. l is the recipe's listing
-- with any lines (document 02, item 4): each step of `listing_of` has line 0, and `bare` takes l's lines off.
abbrev pub Demand3 : Type 0
Demand3 =
    (w : ℕ) → 0 < w → (ls : List Line) → Accepted w ls → (l : List Step) → map bare l ≡ listing_of w ls → (s : State) → EightLongs s.d
    → (b : ℕ) (bs : List ℕ) → steps_of w ls ≤ total b bs → Finishes w ls l s b bs

-- Halted just behind a recipe's steps, whatever stands there behind them: the steps of more lines (`listing_append` of proofs/Steps), or slots that a
-- listing doesn't use. So the rule holds at each line of a longer recipe, and the flags after each add, sub and neg are those of the whole number. (Halted
-- inside a line a run has the state that its last step made: `run_halted` of step/proofs/Laws.)
abbrev pub HaltedBehind : Type 0
HaltedBehind =
    (w : ℕ) → 0 < w → (ls : List Line) → Accepted w ls → (l more : List Step) → map bare l ≡ listing_of w ls → (s : State) → EightLongs s.d
    → (b : ℕ) (bs : List ℕ) → total b bs ≡ steps_of w ls
    → let all = l ++ more in
    let r = run_in_parts perform_of all s 0 b bs in PartsGo perform_of all s 0 b bs × ((goes_on r.end ≡ true) × Meets w ls s r)

-- Called one by one: what `translate` or `translate_array` made of a recipe that it accepted, run by `run` or `run_array` in its first `count` slots. (`run`
-- takes all slots that it is lent. Who lends it the slots past the listing too has `HaltedBehind`, for budgets that end with the listing.)
abbrev pub CalledOneByOne : Type 0
CalledOneByOne =
    (r : Recipe) (slots : List Step) (count : ℕ) → let t = translate_of r slots in
    t.told ≡ Ok count → (s : State) → EightLongs s.d → (b : ℕ) (bs : List ℕ) → count ≤ total b bs
    → Finishes r.width (recipe_lines r) (take count t.slots) s b bs

-- and a text that is read is accepted by the translator, wherever it has slots for the longest
abbrev pub FromText : Type 0
FromText = (text : List ℕ) (r : Recipe) (slots : List Step) → read_of text ≡ Ok r → steps_max ≤ length slots → IsOk (translate_of r slots).told

-- Document 02, item 4, "A stopped run gives a place; the technician wants the recipe line." The step k at place p is step `index` of the recipe's line
-- `line`, from 0, and carries that line's text line, which is `line` + 2
pub record ComesFrom (w : ℕ) (ls : List Line) (p : ℕ) (k : Step) : Type 0 where
  pub line : ℕ
  pub index : ℕ
  pub there : line < length ls
  pub place : p ≡ steps_of w (take line ls) + index
  pub within : index < steps_at (get_or ls line unused).verb * w
  pub step : k ≡ with_line (line + 2) (get_or (line_steps w (get_or ls line unused)) index blank)

-- Each step of a recipe that was translated comes from a line in this way. What a trap or a refusal tells is the line of the step at its place:
-- `line_told` of step/proofs/Lines
abbrev pub EachStep : Type 0
EachStep =
    (r : Recipe) (slots : List Step) (count : ℕ) → let t = translate_of r slots in
    t.told ≡ Ok count → (p : ℕ) → p < count → ComesFrom r.width (recipe_lines r) p (get_or t.slots p blank)

-- Document 02, item 2, "Demand 3 reads each box by itself": the recipe's listing on a rack that is not refused, with a budget b, and then with each of the
-- budgets bs. A box that starts at the first place ends as demand 3 says of a run, whatever the other boxes hold and wherever they start; no part of
-- it is trapped or refused, and each is the run of that part (`rack_parts` of step/proofs/Boxes). (d stands past the rows' ends.)
abbrev pub EachBox : Type 0
EachBox =
    (w : ℕ) → 0 < w → (ls : List Line) → Accepted w ls → (l : List Step) → map bare l ≡ listing_of w ls
    → (sets : List State) (starts : List ℕ) (answers : List Boxed) → IsOk (plan_of (length sets) (length starts) (length answers))
    → (i : ℕ) (d : Ran) → i < length sets → let s = get_or sets i (state_of d) in
    EightLongs s.d → get_or starts i d.next ≡ 0 → (b : ℕ) (bs : List ℕ) → steps_of w ls ≤ total b bs
    → let r = box_in_parts perform_of l d i sets starts answers b bs in PartsGo perform_of l s 0 b bs × ((r.end ≡ Finished) × Meets w ls s r)

-- ---- what `run_recipe` and `run_text` answer

-- what the rule makes of a state: at the widths 1, 2 and 4 the numbers determine the registers (`ruled_registers` of proofs/Demand)
abbrev pub ran_by_rule : (w : ℕ) → List Line → State → RecipeRun
ran_by_rule w ls s =
    let r = rules_of w ls (account_of w s) in
    record {
      d = registers_of w r.numbers;
      a = s.a;
      x = r.x;
      codes = r.codes;
      steps = steps_of w ls;
      clocks = clocks_of (listing_of w ls);
    }

-- a recipe: by the translator's tests, of which 9 is never met, since an array has slots for the longest. A refused one is not run
unfoldable pub recipe_run_of : Recipe → State → Result RecipeRun Refused
recipe_run_of r s = tested Err r (Ok (ran_by_rule r.width (recipe_lines r) s))

-- a text of any length: by the reader's. (That only `text_max` bytes are read is the program's)
abbrev pub reading_ran : Result Recipe Refused → State → Result RecipeRun Refused
reading_ran (Ok r) s = Ok (ran_by_rule r.width (recipe_lines r) s)
reading_ran (Err k) s = Err k

unfoldable pub text_run_of : List ℕ → State → Result RecipeRun Refused
text_run_of text s = reading_ran (read_of text) s
