-- Text lines: document 02, item 4. A step carries the line of the recipe that it comes from, and a trap or a refusal tells the line of its step; no other
-- answer of a run depends on it. What the laws of lines speak of (proofs/Lines), and demand 3 with them. Assumes nothing.
use Rattle.std.specs.Prelude.{◌≡◌, ℕ, List, map}
use Rattle.step.specs.declared.registers.State.{State}
use Rattle.step.specs.declared.forms.Step.{Step}
use Rattle.step.specs.declared.runs.End.{End}
use Rattle.step.specs.declared.runs.Ran.{Ran}
use Rattle.step.specs.Perform.{perform_of}
use Rattle.step.specs.Run.{Spot, here, at_end, past_end, spot_of, run_of}

-- a step with another line, and without one
abbrev pub with_line : (n : ℕ) → Step → Step
with_line n k = record { size = k.size; form = k.form; line = n }

abbrev pub bare : Step → Step
bare k = with_line 0 k

-- an end and a run without the line that they tell: all else is kept
abbrev pub bare_end : End → End
bare_end End.Finished = End.Finished
bare_end End.Budget = End.Budget
bare_end (End.Trapped trap p n) = End.Trapped trap p 0
bare_end (End.Refused fault p n) = End.Refused fault p 0

abbrev pub bare_ran : Ran → Ran
bare_ran r = record { end = bare_end r.end; state = r.state; next = r.next; steps = r.steps; clocks = r.clocks }

-- two listings that differ in lines alone run alike: in state, next place, steps and figures, and in the end but for the line
abbrev pub LinesOnly : Type 0
LinesOnly = (l m : List Step) → map bare l ≡ map bare m → (s : State) (p b : ℕ) → bare_ran (run_of perform_of l s p b) ≡ bare_ran (run_of perform_of m s p b)

-- the line of what stands at a place; 0 where no step does
abbrev pub spot_line : Spot → ℕ
spot_line (here k) = k.line
spot_line at_end = 0
spot_line past_end = 0

-- a trap and a refusal tell the line of the step at their place
abbrev pub TellsLine : List Step → End → Type 0
TellsLine l End.Finished = Unit {0}
TellsLine l End.Budget = Unit {0}
TellsLine l (End.Trapped trap p n) = n ≡ spot_line (spot_of l p)
TellsLine l (End.Refused fault p n) = n ≡ spot_line (spot_of l p)

abbrev pub LineTold : Type 0
LineTold = (l : List Step) (s : State) (p b : ℕ) → TellsLine l (run_of perform_of l s p b).end
