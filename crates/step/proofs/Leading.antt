-- What the floor above uses of a run, over any step function f that keeps the promises and any listing l. Assumes nothing.
--     Stands          steps stand in the listing from a place on: `stands_first`, `stands_left`, `stands_right`
--     Leads           n steps of c clocks in all lead from state s at place p to state t at place q, whatever budget is left: `leads_none`, `leads_then`,
--                     `leads_like`
--     leads_through   legal steps that stand in the listing lead through it, to the state that they leave
--     leads_in_parts  and so does a run that is halted as often as one likes
--     idle            with no budget a run stays where it is
use Rattle.std.proofs.Common.{◌≡◌, ℕ, zero, suc, ◌+◌, ◌≤◌, true, List, [], ◌∷◌, ◌++◌, length, sym, refl, ap, ◌∙◌, subst, ap₂, add-zero, add_assoc, zero-add, one-add, arith}
use mathlib.Core.Path.{subst⁻¹}
use Rattle.step.specs.declared.registers.State.{State}
use Rattle.step.specs.declared.forms.Step.{Step}
use Rattle.step.specs.declared.steps.Outcome.{Outcome}
use Rattle.step.specs.declared.steps.Outcome.TheVariants.{Done}
use Rattle.step.specs.declared.steps.Performed.{Performed}
use Rattle.step.specs.declared.runs.End.{End}
use Rattle.step.specs.declared.runs.Ran.{Ran}
use Rattle.step.specs.Run.{Spot, here, at_end, past_end, spot_of, ends, counted, after, followed, run_of}
use Rattle.step.specs.Parts.{goes_on, run_in_parts, PartsGo, total}
use Rattle.step.proofs.Laws.{after_none, run_end, run_none, run_step, run_in_parts_lem, parts_go}
use Rattle.step.proofs.Promises.{Alu, Legal, applied, Gives, Steps}

-- what holds of each of some steps
abbrev pub All : (Step → Type 0) → List Step → Type 0
All P [] = Unit {0}
All P (k ∷ ks) = P k × All P ks

-- what legal steps leave, one after the other, and the sum of their figures
abbrev pub executed : Alu → List Step → State → State
executed m [] s = s
executed m (k ∷ ks) s = executed m ks (applied m k s)

abbrev pub figures : (Step → ℕ) → List Step → ℕ
figures figure [] = 0
figures figure (k ∷ ks) = figure k + figures figure ks

-- ---- what stands in a listing from a place on

abbrev pub Stands : (l : List Step) → (p : ℕ) → List Step → Type 0
Stands l p [] = Unit {0}
Stands l p (k ∷ ks) = (spot_of l p ≡ here k) × Stands l (suc p) ks

stands_behind : (c : Step) (l : List Step) (p : ℕ) (ks : List Step) → Stands l p ks → Stands (c ∷ l) (suc p) ks
stands_behind c l p [] h = tt
stands_behind c l p (k ∷ ks) h = (h.0, stands_behind c l (suc p) ks h.1)

pub stands_first : (ks ls : List Step) → Stands (ks ++ ls) 0 ks
stands_first [] ls = tt
stands_first (k ∷ ks) ls = (refl, stands_behind k (ks ++ ls) 0 ks (stands_first ks ls))

pub stands_left : (l : List Step) (p : ℕ) (ks ls : List Step) → Stands l p (ks ++ ls) → Stands l p ks
stands_left l p [] ls h = tt
stands_left l p (k ∷ ks) ls h = (h.0, stands_left l (suc p) ks ls h.1)

pub stands_right : (l : List Step) (p : ℕ) (ks ls : List Step) → Stands l p (ks ++ ls) → Stands l (p + length ks) ls
stands_right l p [] ls h = subst⁻¹ (λ (q : ℕ). Stands l q ls) (add-zero p) h
stands_right l p (k ∷ ks) ls h =
    let e : p + suc (length ks) ≡ suc p + length ks = omega arith in
    subst⁻¹ (λ (q : ℕ). Stands l q ls) e (stands_right l (suc p) ks ls h.1)

-- up to the end, no place is past it
spot_inside : (l : List Step) (p : ℕ) → p ≤ length l → spot_of l p ≡ past_end → ⊥
spot_inside [] zero h e = let z : ◌≡◌ {A = ℕ} 0 1 = cc in omega arith
spot_inside [] (suc p) h e = omega arith
spot_inside (c ∷ l) zero h e = let z : ◌≡◌ {A = ℕ} 0 1 = cc in omega arith
spot_inside (c ∷ l) (suc p) h e = spot_inside l p (omega arith) e

-- ---- where steps lead

after_after : (n c n' c' : ℕ) (r : Ran) → after n c (after n' c' r) ≡ after (n + n') (c + c') r
after_after n c n' c' r = rw (add_assoc n n' r.steps, add_assoc c c' r.clocks)

after_one : (c : ℕ) (r : Ran) → counted c r ≡ after 1 c r
after_one c r = rw (one-add r.steps)

module _ (f : State → Step → Performed) (l : List Step) where
  pub record Leads (s : State) (p n c : ℕ) (t : State) (q : ℕ) : Type 0 where
    pub runs : (b : ℕ) → run_of f l s p (n + b) ≡ after n c (run_of f l t q b)

  pub leads_none : (s : State) (p : ℕ) → Leads s p 0 0 s p
  leads_none s p = record { runs = λ b. ap (run_of f l s p) (zero-add b) ∙ sym (after_none _) }

  pub leads_then : {s t u : State} {p n c q n' c' q' : ℕ} → Leads s p n c t q → Leads t q n' c' u q' → Leads s p (n + n') (c + c') u q'
  leads_then {s} {n = n} {c = c} {n' = n'} {c' = c'} h h' =
      record { runs = λ b. ap (run_of f l s _) (add_assoc n n' b) ∙ (h.runs (n' + b) ∙ (ap (after n c) (h'.runs b) ∙ after_after n c n' c' _)) }

  -- the same with the steps and the place told otherwise
  pub leads_like : {s t : State} {p n c q : ℕ} → Leads s p n c t q → (m r : ℕ) → n ≡ m → q ≡ r → Leads s p m c t r
  leads_like {s} {t} {p} {n} {c} {q} h m r e g = subst (λ (i : ℕ). Leads s p m c t i) g (subst (λ (i : ℕ). Leads s p i c t q) e h)

  -- a step that is done
  leads_done : {k : Step} {s t : State} {p c : ℕ} → spot_of l p ≡ here k → Gives (f s k) Done t c → Leads s p 1 c t (suc p)
  leads_done {k} {s} {t} {p} {c} at does =
      record {
        runs =
            λ b. ap (run_of f l s p) (one-add b)
            ∙ (run_step f l s p b k at
            ∙ (ap (λ (x : Outcome). followed x (f s k) p k.line (λ t q. run_of f l t q b)) does.outcome
            ∙ (ap₂ {C = Ran} (λ (t : State) (c : ℕ). counted c (run_of f l t (suc p) b)) does.state does.clocks ∙ after_one c _)));
      }

  -- Steps that lead somewhere lead there in parts: budgets b and bs, enough for them and `more`. No part is trapped or refused
  pub leads_in_parts : {s t : State} {p n c q : ℕ} → Leads s p n c t q → (more b : ℕ) (bs : List ℕ) → total b bs ≡ n + more
      → goes_on (run_of f l t q more).end ≡ true → PartsGo f l s p b bs × (run_in_parts f l s p b bs ≡ after n c (run_of f l t q more))
  leads_in_parts {s} {t} {p} {n} {c} {q} h more b bs e g =
      let whole : run_of f l s p (total b bs) ≡ after n c (run_of f l t q more) = ap (run_of f l s p) e ∙ h.runs more in
      let go = parts_go f l bs s p b (subst⁻¹ (λ (r : Ran). goes_on r.end ≡ true) whole g) in
      (go, run_in_parts_lem f l bs s p b go ∙ whole)

  -- with no budget a run stays where it is, up to the end
  pub record Idle (s : State) (p : ℕ) : Type 0 where
    pub goes : goes_on (run_of f l s p 0).end ≡ true
    pub state : (run_of f l s p 0).state ≡ s
    pub next : (run_of f l s p 0).next ≡ p
    pub steps : (run_of f l s p 0).steps ≡ 0
    pub clocks : (run_of f l s p 0).clocks ≡ 0

  idle_as : (s : State) (p : ℕ) (e : End) → run_of f l s p 0 ≡ ends e s p → goes_on e ≡ true → Idle s p
  idle_as s p e is g =
      record { goes = ap (λ (r : Ran). goes_on r.end) is ∙ g; state = ap (λ (r : Ran). r.state) is; next = ap (λ (r : Ran). r.next) is; steps = ap (λ (r : Ran). r.steps) is; clocks = ap (λ (r : Ran). r.clocks) is }

  pub idle : (s : State) (p : ℕ) → p ≤ length l → Idle s p
  idle s p h = go (spot_of l p) refl
    where
      go : (o : Spot) → spot_of l p ≡ o → Idle s p
      go past_end e = absurd (spot_inside l p h e)
      go at_end e = idle_as s p End.Finished (run_end f l s p 0 e) refl
      go (here k) e = idle_as s p End.Budget (run_none f l s p k e) refl

  module _ (step : Steps f) where
    pub leads_through : (ks : List Step) (s : State) (p : ℕ) → Stands l p ks → All Legal ks
        → Leads s p (length ks) (figures step.figure ks) (executed step.alu ks s) (p + length ks)
    leads_through [] s p at h = leads_like (leads_none s p) _ _ refl (sym (add-zero p))
    leads_through (k ∷ ks) s p at h =
        leads_like (leads_then (leads_done at.0 (step.does k s h.0)) (leads_through ks (applied step.alu k s) (suc p) at.1 h.1)) _ _ (one-add _) (omega arith)
