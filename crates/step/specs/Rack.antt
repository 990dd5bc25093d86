-- A rack of boxes: document 02, item 2. One listing is run on each set of a row, from the box's own start place and with the whole budget. First what
-- `rack` answers and leaves, over any step function f; then a rack that is halted and continued, of which the laws speak (proofs/Boxes) and demand 3 with
-- them. Assumes nothing.
use Rattle.std.specs.Prelude.{ℕ, Result, Ok, Err, cond, ◌&&◌, List, [], ◌∷◌, map, length, take, nat_le, slice_index_or}
use Rattle.step.specs.declared.registers.State.{State}
use Rattle.step.specs.declared.forms.Step.{Step}
use Rattle.step.specs.declared.steps.Performed.{Performed}
use Rattle.step.specs.declared.runs.Ran.{Ran}
use Rattle.step.specs.declared.racks.Boxed.{Boxed}
use Rattle.step.specs.declared.racks.TooManyBoxes.{TooManyBoxes}
use Rattle.step.specs.Run.{after, run_of}
use Rattle.step.specs.Lent.{over}

-- document 02: "up to 64 boxes"
abbrev pub boxes_max : ℕ
boxes_max = 64

-- how many boxes a rack runs, or that it is refused
abbrev pub Plan : Type 0
Plan = Result ℕ TooManyBoxes

-- document 02's number; 0 where nothing is refused
abbrev pub fit_number : Plan → ℕ
fit_number (Ok boxes) = 0
fit_number (Err refusal) = 15

-- a refused rack runs no box
abbrev pub boxes_of : Plan → ℕ
boxes_of (Ok boxes) = boxes
boxes_of (Err refusal) = 0

abbrev pub refused_rack : Plan
refused_rack = Err (record {})

-- a rack is run if it has at most `boxes_max` sets, and a start place and a slot for each
abbrev pub plan_of : (sets starts answers : ℕ) → Plan
plan_of sets starts answers = cond (nat_le sets boxes_max && nat_le sets starts && nat_le sets answers) (Ok sets) refused_rack

-- what a run leaves for the two rows: its state for the sets, all else for the answers
abbrev pub state_of : Ran → State
state_of r = r.state

abbrev pub boxed_of : Ran → Boxed
boxed_of r = record { end = r.end; next = r.next; steps = r.steps; clocks = r.clocks }

-- what a rack answers, and the two rows as it leaves them
pub record Rack : Type 0 where
  pub plan : Plan
  pub sets : List State
  pub answers : List Boxed

abbrev pub left : Plan → List State → List Boxed → Rack
left plan sets answers = record { plan = plan; sets = sets; answers = answers }

module _ (f : State → Step → Performed) (l : List Step) where
  -- the single runs with the budget b, each of a set from its start place; spare start places are not read
  unfoldable pub runs_of : List State → (starts : List ℕ) → (b : ℕ) → List Ran
  runs_of [] starts b = []
  runs_of (s ∷ sets) [] b = []
  runs_of (s ∷ sets) (p ∷ starts) b = run_of f l s p b ∷ runs_of sets starts b

  -- the boxes that the plan has get what their runs leave; of both rows all else stays
  abbrev pub planned : List State → (starts : List ℕ) → (b : ℕ) → List Boxed → Plan → Rack
  planned sets starts b answers plan =
      let runs = runs_of (take (boxes_of plan) sets) starts b in left plan (over (map state_of runs) sets) (over (map boxed_of runs) answers)

  abbrev pub rack_of : List State → (starts : List ℕ) → (b : ℕ) → List Boxed → Rack
  rack_of sets starts b answers = planned sets starts b answers (plan_of (length sets) (length starts) (length answers))

-- ---- box by box

-- a state and what is said beside it, put together
abbrev pub ran_by : State → Boxed → Ran
ran_by s z = record { end = z.end; state = s; next = z.next; steps = z.steps; clocks = z.clocks }

-- box i of a rack; d stands past the rows' ends, where there is none
abbrev pub box_at : (d : Ran) → Rack → (i : ℕ) → Ran
box_at d k i = ran_by (slice_index_or k.sets i (state_of d)) (slice_index_or k.answers i (boxed_of d))

abbrev pub next_of : Boxed → ℕ
next_of z = z.next

-- Box i of a rack with the budget b, halted there and continued with the next budget of the list, each box from its state and its next place, and so on:
-- steps and figures add, as in `run_in_parts` of Parts
module _ (f : State → Step → Performed) (l : List Step) (d : Ran) (i : ℕ) where
  abbrev pub box_in_parts : List State → (starts : List ℕ) → List Boxed → (b : ℕ) → (bs : List ℕ) → Ran
  box_in_parts sets starts answers b [] = box_at d (rack_of f l sets starts b answers) i
  box_in_parts sets starts answers b (c ∷ bs) =
      let k = rack_of f l sets starts b answers in
      let r = box_at d k i in after r.steps r.clocks (box_in_parts k.sets (map next_of k.answers) k.answers c bs)
