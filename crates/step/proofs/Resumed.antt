-- A run that is halted and taken up again. Assumes nothing.
--     resumed_fits     where the sums of steps and clocks have 32 and 64 bits, nothing wraps
--     resumed_begun    a run begun and taken up is the run
--     resumed_split    a run halted and taken up again is the run of both budgets
-- They ask of a step that its figure has 32 bits: `perform_fits` of Figures.
use Rattle.std.proofs.Common.{◌≡◌, ℕ, zero, suc, ◌+◌, ◌*◌, ◌^◌, ◌<◌, ◌≤◌, true, List, sym, ap, ◌∙◌, ap₂, mod-eq_of_lt, arith}
use Rattle.step.specs.declared.registers.State.{State}
use Rattle.step.specs.declared.forms.Step.{Step}
use Rattle.step.specs.declared.steps.Outcome.{Outcome}
use Rattle.step.specs.declared.steps.Outcome.TheVariants.{Done, Trapped, Refused}
use Rattle.step.specs.declared.steps.Performed.{Performed}
use Rattle.step.specs.declared.runs.End.TheVariants as End
use Rattle.step.specs.declared.runs.Ran.{Ran}
use Rattle.step.specs.Run.{Spot, here, at_end, past_end, spot_of, ends, after, followed, met, run_of, wrapped, resumed_of}
use Rattle.step.specs.Parts.{goes_on}
use Rattle.step.proofs.Laws.{after_none, run_few, run_split}

pub wrapped_fits : (r : Ran) → r.steps < 2 ^ 32 → r.clocks < 2 ^ 64 → wrapped r ≡ r
wrapped_fits r h k =
    ap₂ {C = Ran} (λ (n c : ℕ). record { end = r.end; state = r.state; next = r.next; steps = n; clocks = c }) (mod-eq_of_lt h) (mod-eq_of_lt k)

pub resumed_fits : (f : State → Step → Performed) (l : List Step) (r : Ran) (b : ℕ)
    → let more = run_of f l r.state r.next b in
    r.steps + more.steps < 2 ^ 32 → r.clocks + more.clocks < 2 ^ 64 → resumed_of f l r b ≡ after r.steps r.clocks more
resumed_fits f l r b h k = wrapped_fits (after r.steps r.clocks (run_of f l r.state r.next b)) h k

-- over any step function whose figures have 32 bits
module _ (f : State → Step → Performed) (l : List Step) (small : (s : State) (k : Step) → (f s k).clocks < 2 ^ 32) where
  clocks_followed : (o : Outcome) (w : Performed) (p line b : ℕ) (on : State → ℕ → Ran) → w.clocks < 2 ^ 32 → ((t : State) (q : ℕ) → (on t q).clocks ≤ b * 2 ^ 32)
      → (followed o w p line on).clocks ≤ suc b * 2 ^ 32
  clocks_followed Done w p line b on k h = omega (arith, k, h w.state (suc p))
  clocks_followed (Trapped x) w p line b on k h = omega (arith, k)
  clocks_followed (Refused x) w p line b on k h = omega arith

  clocks_met : (o : Spot) (s : State) (p b : ℕ) (on : Step → Ran) → ((k : Step) → (on k).clocks ≤ b * 2 ^ 32) → (met o s p on).clocks ≤ b * 2 ^ 32
  clocks_met past_end s p b on h = omega arith
  clocks_met at_end s p b on h = omega arith
  clocks_met (here k) s p b on h = h k

  -- a run's clocks are no more than its budget allows
  pub run_clocks : (s : State) (p b : ℕ) → (run_of f l s p b).clocks ≤ b * 2 ^ 32
  unfolding run_of
  run_clocks s p zero = clocks_met (spot_of l p) s p 0 _ (λ k. omega arith)
  run_clocks s p (suc b) = clocks_met (spot_of l p) s p (suc b) _ (λ k. clocks_followed (f s k).outcome (f s k) p k.line b _ (small s k) (λ t q. run_clocks t q b))

  run_wrapped : (s : State) (p b : ℕ) → b < 2 ^ 32 → wrapped (run_of f l s p b) ≡ run_of f l s p b
  run_wrapped s p b h = wrapped_fits (run_of f l s p b) (omega (arith, h, run_few f l s p b)) (omega (arith, h, run_clocks s p b))

  pub resumed_begun : (s : State) (p b : ℕ) → b < 2 ^ 32 → resumed_of f l (ends End.Budget s p) b ≡ run_of f l s p b
  resumed_begun s p b h = ap wrapped (after_none (run_of f l s p b)) ∙ run_wrapped s p b h

  -- where the first part was neither trapped nor refused
  pub resumed_split : (s : State) (p b c : ℕ) → b + c < 2 ^ 32 → goes_on (run_of f l s p b).end ≡ true → resumed_of f l (run_of f l s p b) c ≡ run_of f l s p (b + c)
  resumed_split s p b c h g = ap wrapped (sym (run_split f l s p b c g)) ∙ run_wrapped s p (b + c) h
