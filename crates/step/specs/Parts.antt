-- A run that is halted and continued: what the laws of a run speak of (proofs/Laws), and demand 3 with them. No contract of this crate names anything
-- of this page. Assumes nothing.
use Rattle.std.specs.Prelude.{◌≡◌, ℕ, ◌+◌, Bool, true, false, List, [], ◌∷◌}
use Rattle.step.specs.declared.registers.State.{State}
use Rattle.step.specs.declared.forms.Step.{Step}
use Rattle.step.specs.declared.steps.Performed.{Performed}
use Rattle.step.specs.declared.runs.End.{End}
use Rattle.step.specs.declared.runs.Ran.{Ran}
use Rattle.step.specs.Run.{after, run_of}

-- neither trapped nor refused
abbrev pub goes_on : End → Bool
goes_on End.Finished = true
goes_on End.Budget = true
goes_on (End.Trapped trap p n) = false
goes_on (End.Refused fault p n) = false

-- a run with the budget b, halted there and continued with the next budget of the list, from its state and its next place, and so on: steps and
-- figures add. (It walks on past a part that is trapped or refused; `PartsGo` says that there is none)
module _ (f : State → Step → Performed) (l : List Step) where
  abbrev pub run_in_parts : State → (p b : ℕ) → (bs : List ℕ) → Ran
  run_in_parts s p b [] = run_of f l s p b
  run_in_parts s p b (c ∷ bs) = let r = run_of f l s p b in after r.steps r.clocks (run_in_parts r.state r.next c bs)

  -- no part but perhaps the last is trapped or refused: each but the last goes on
  abbrev pub PartsGo : State → (p b : ℕ) → (bs : List ℕ) → Type 0
  PartsGo s p b [] = Unit {0}
  PartsGo s p b (c ∷ bs) = let r = run_of f l s p b in (goes_on r.end ≡ true) × PartsGo r.state r.next c bs

-- the sum of the budgets
abbrev pub total : (b : ℕ) → (bs : List ℕ) → ℕ
total b [] = b
total b (c ∷ bs) = b + total c bs
