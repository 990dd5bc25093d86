-- The lines that steps carry have no effect but to be told. Without them a listing runs the same: `run_bare`, in parts `parts_bare`; so two listings that
-- differ in lines alone run alike: `lines_only`. A trap and a refusal tell the line of the step at their place: `line_told`. Assumes nothing.
use Rattle.std.proofs.Common.{◌≡◌, ℕ, zero, suc, true, List, [], ◌∷◌, map, sym, refl, ap, ◌∙◌}
use mathlib.Core.Path.{subst⁻¹}
use Rattle.step.specs.declared.registers.State.{State}
use Rattle.step.specs.declared.forms.Step.{Step}
use Rattle.step.specs.declared.steps.Outcome.{Outcome}
use Rattle.step.specs.declared.steps.Outcome.TheVariants.{Done, Trapped, Refused}
use Rattle.step.specs.declared.steps.Performed.{Performed}
use Rattle.step.specs.declared.runs.End.{End}
use Rattle.step.specs.declared.runs.Ran.{Ran}
use Rattle.step.specs.Perform.{perform_of}
use Rattle.step.specs.Run.{Spot, here, at_end, past_end, spot_of, ends, counted, after, followed, met, run_of}
use Rattle.step.specs.Parts.{goes_on, run_in_parts, PartsGo}
use Rattle.step.specs.Lines.{bare, bare_end, bare_ran, LinesOnly, spot_line, TellsLine, LineTold}

-- ---- without lines

abbrev bare_spot : Spot → Spot
bare_spot (here k) = here (bare k)
bare_spot at_end = at_end
bare_spot past_end = past_end

spot_bare : (l : List Step) (p : ℕ) → spot_of (map bare l) p ≡ bare_spot (spot_of l p)
spot_bare [] zero = refl
spot_bare [] (suc p) = refl
spot_bare (k ∷ ks) zero = refl
spot_bare (k ∷ ks) (suc p) = spot_bare ks p

-- the step function doesn't look at the line; the step machine doesn't
abbrev pub Blind : (State → Step → Performed) → Type 0
Blind f = (s : State) (k : Step) → f s (bare k) ≡ f s k

pub blind : Blind perform_of
blind s k = refl

pub goes_bare : (e : End) → goes_on (bare_end e) ≡ goes_on e
goes_bare End.Finished = refl
goes_bare End.Budget = refl
goes_bare (End.Trapped trap p n) = refl
goes_bare (End.Refused fault p n) = refl

module _ (f : State → Step → Performed) (unseen : Blind f) (l : List Step) where
  bare_followed : (o : Outcome) (w : Performed) (p line : ℕ) (on on' : State → ℕ → Ran) → ((t : State) → bare_ran (on t (suc p)) ≡ on' t (suc p))
      → bare_ran (followed o w p line on) ≡ followed o w p 0 on'
  bare_followed Done w p line on on' h = ap (counted w.clocks) (h w.state)
  bare_followed (Trapped x) w p line on on' h = refl
  bare_followed (Refused x) w p line on on' h = refl

  bare_met : (o : Spot) (s : State) (p : ℕ) (on on' : Step → Ran) → ((k : Step) → bare_ran (on k) ≡ on' (bare k)) → bare_ran (met o s p on) ≡ met (bare_spot o) s p on'
  bare_met past_end s p on on' h = refl
  bare_met at_end s p on on' h = refl
  bare_met (here k) s p on on' h = h k

  pub run_bare : (s : State) (p b : ℕ) → bare_ran (run_of f l s p b) ≡ run_of f (map bare l) s p b
  unfolding run_of
  run_bare s p zero = rw (spot_bare l p) (bare_met (spot_of l p) s p (λ k. ends End.Budget s p) (λ k. ends End.Budget s p) (λ k. refl))
  run_bare s p (suc b) =
      rw (spot_bare l p)
      (bare_met (spot_of l p) s p (λ k. followed (f s k).outcome (f s k) p k.line (λ t q. run_of f l t q b))
      (λ k. followed (f s k).outcome (f s k) p k.line (λ t q. run_of f (map bare l) t q b))
      (λ k. rw (unseen s k) (bare_followed (f s k).outcome (f s k) p k.line _ _ (λ t. run_bare t (suc p) b))))

  -- halted and continued, however often
  pub parts_bare : (bs : List ℕ) (s : State) (p b : ℕ) → bare_ran (run_in_parts f l s p b bs) ≡ run_in_parts f (map bare l) s p b bs
  parts_bare [] s p b = run_bare s p b
  parts_bare (c ∷ bs) s p b =
      let r = run_of f l s p b in
      ap (after r.steps r.clocks) (parts_bare bs r.state r.next c)
      ∙ ap (λ (q : Ran). after q.steps q.clocks (run_in_parts f (map bare l) q.state q.next c bs)) (run_bare s p b)

  pub parts_go_bare : (bs : List ℕ) (s : State) (p b : ℕ) → PartsGo f (map bare l) s p b bs → PartsGo f l s p b bs
  parts_go_bare [] s p b g = tt
  parts_go_bare (c ∷ bs) s p b g =
      let r = run_of f l s p b in
      let h = subst⁻¹ (λ (q : Ran). (goes_on q.end ≡ true) × PartsGo f (map bare l) q.state q.next c bs) (run_bare s p b) g in
      (sym (goes_bare r.end) ∙ h.0, parts_go_bare bs r.state r.next c h.1)

pub lines_only : LinesOnly
lines_only l m e s p b = run_bare perform_of blind l s p b ∙ (ap (λ (k : List Step). run_of perform_of k s p b) e ∙ sym (run_bare perform_of blind m s p b))

-- ---- the line that is told

module _ (f : State → Step → Performed) (l : List Step) where
  told_followed : (o : Outcome) (w : Performed) (p : ℕ) (k : Step) (on : State → ℕ → Ran) → spot_of l p ≡ here k → ((t : State) (q : ℕ) → TellsLine l (on t q).end)
      → TellsLine l (followed o w p k.line on).end
  told_followed Done w p k on at h = h w.state (suc p)
  told_followed (Trapped x) w p k on at h = ap spot_line (sym at)
  told_followed (Refused x) w p k on at h = ap spot_line (sym at)

  told_met : (o : Spot) (s : State) (p : ℕ) (on : Step → Ran) → spot_of l p ≡ o → ((k : Step) → spot_of l p ≡ here k → TellsLine l (on k).end) → TellsLine l (met o s p on).end
  told_met past_end s p on at h = ap spot_line (sym at)
  told_met at_end s p on at h = tt
  told_met (here k) s p on at h = h k at

  told : (s : State) (p b : ℕ) → TellsLine l (run_of f l s p b).end
  unfolding run_of
  told s p zero = told_met (spot_of l p) s p _ refl (λ k at. tt)
  told s p (suc b) = told_met (spot_of l p) s p _ refl (λ k at. told_followed (f s k).outcome (f s k) p k _ at (λ t q. told t q b))

pub line_told : LineTold
line_told l s p b = told perform_of l s p b
