-- A run of a listing: document 01, "Steps and runs", with document 02, item 4. It is defined by recursion on the budget, from a place, over any step
-- function f. The tests stand in document 01's order: past the end; at the end; the budget spent; then the step. Assumes nothing.
use Rattle.std.specs.Prelude.{ℕ, zero, suc, ◌+◌, ◌%◌, ◌^◌, List, [], ◌∷◌}
use Rattle.step.specs.declared.registers.State.{State}
use Rattle.step.specs.declared.forms.Step.{Step}
use Rattle.step.specs.declared.steps.Fault.TheVariants.{StartPastEnd}
use Rattle.step.specs.declared.steps.Outcome.{Outcome}
use Rattle.step.specs.declared.steps.Outcome.TheVariants.{Done, Trapped, Refused}
use Rattle.step.specs.declared.steps.Performed.{Performed}
use Rattle.step.specs.declared.runs.End.{End}
use Rattle.step.specs.declared.runs.Ran.{Ran}
use Rattle.step.specs.Perform.{number_of, class_of}

-- the slots of a listing that stands in an array: document 01, "into a 256-slot listing". (How many steps a recipe may have is another number: `steps_max`
-- of the crate recipes)
abbrev pub array_slots : ℕ
array_slots = 256

-- what stands at a place of a listing: a step, its end, or nothing
pub data Spot : Type 0 where
  here : Step → Spot
  at_end : Spot
  past_end : Spot

abbrev pub spot_of : List Step → (p : ℕ) → Spot
spot_of [] zero = at_end
spot_of [] (suc p) = past_end
spot_of (k ∷ ks) zero = here k
spot_of (k ∷ ks) (suc p) = spot_of ks p

-- a run that ends at place p before it takes a step
abbrev pub ends : End → State → (p : ℕ) → Ran
ends e s p = record { end = e; state = s; next = p; steps = 0; clocks = 0 }

-- one step of c clocks, and then a run
abbrev pub counted : (c : ℕ) → Ran → Ran
counted c r = record { end = r.end; state = r.state; next = r.next; steps = suc r.steps; clocks = c + r.clocks }

-- n steps and c clocks, and then a run
abbrev pub after : (n c : ℕ) → Ran → Ran
after n c r = record { end = r.end; state = r.state; next = r.next; steps = n + r.steps; clocks = c + r.clocks }

-- The step at place p, of the text line n, was performed as o; its outcome stands first, to go by its cases. Done: it is counted, and the run goes on,
-- from o's state and the place after p. A trap is counted and ends the run; the next place is after it. A refused step is not counted and is the next
-- place. Both hand on the place and the line
abbrev pub followed : Outcome → Performed → (p n : ℕ) → (on : State → ℕ → Ran) → Ran
followed Done o p n on = counted o.clocks (on o.state (suc p))
followed (Trapped trap) o p n on = counted o.clocks (ends (End.Trapped trap p n) o.state (suc p))
followed (Refused fault) o p n on = ends (End.Refused fault p n) o.state p

-- the tests of a place; `on` is what a spent budget or the step makes of it. Past the end there is no line: 0
abbrev pub met : Spot → State → (p : ℕ) → (on : Step → Ran) → Ran
met past_end s p on = ends (End.Refused StartPastEnd p 0) s p
met at_end s p on = ends End.Finished s p
met (here k) s p on = on k

-- the run of the listing l from state s and place p, with the budget b
module _ (f : State → Step → Performed) (l : List Step) where
  unfoldable pub run_of : State → (p b : ℕ) → Ran
  run_of s p zero = met (spot_of l p) s p (λ k. ends End.Budget s p)
  run_of s p (suc b) = met (spot_of l p) s p (λ k. followed (f s k).outcome (f s k) p k.line (λ t q. run_of t q b))

-- steps modulo 2 ^ 32 and clocks modulo 2 ^ 64: the widths of the code's numbers
abbrev pub wrapped : Ran → Ran
wrapped r = record { end = r.end; state = r.state; next = r.next; steps = r.steps % 2 ^ 32; clocks = r.clocks % 2 ^ 64 }

-- A run taken up again as r left it, from its state and its next place, with the budget b: steps and clocks add. Where r is itself a run that was neither
-- trapped nor refused, and the budgets are below 2 ^ 32 together, nothing wraps, and the two are one run: `resumed_split` of proofs/Resumed
abbrev pub resumed_of : (State → Step → Performed) → List Step → Ran → (b : ℕ) → Ran
resumed_of f l r b = wrapped (after r.steps r.clocks (run_of f l r.state r.next b))

-- How a run ended, by numbers: which of the four ends it is, the class of its trap or document 01's refusal number, and the place of either; 0 where
-- there is none. (0 to 3 for the four ends is our own numbering, document 01 has none)
abbrev pub end_numbers : End → List ℕ
end_numbers End.Finished = 0 ∷ 0 ∷ 0 ∷ []
end_numbers End.Budget = 1 ∷ 0 ∷ 0 ∷ []
end_numbers (End.Trapped trap p n) = 2 ∷ class_of trap ∷ p ∷ []
end_numbers (End.Refused fault p n) = 3 ∷ number_of fault ∷ p ∷ []

-- and the text line of the step there; 0 where there is none
abbrev pub end_line : End → ℕ
end_line End.Finished = 0
end_line End.Budget = 0
end_line (End.Trapped trap p n) = n
end_line (End.Refused fault p n) = n
