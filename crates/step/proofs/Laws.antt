-- Laws of a run, over any step function f and any listing l. What a run makes of each place: `run_past`, `run_end`, `run_none`, `run_step`. The
-- steps done are the next place less the start place: `run_next`; no more than the budget: `run_few`. A run of j and then of k steps is one of
-- j + k: `run_split`; halted however often: `run_in_parts_lem`. Halted after any step it has that step's state, so no run does its work in the first step
-- and idles: `run_halted`. A budget of the steps that stand there is enough: `run_enough`. Assumes nothing.
use Rattle.std.proofs.Common.{◌≡◌, ℕ, zero, suc, ◌+◌, ◌<◌, ◌≤◌, true, false, List, [], ◌∷◌, length, get_or, sym, refl, ap, ◌∙◌, subst, add_assoc, suc-add, zero-add, add-one, arith}
use Rattle.step.specs.declared.registers.State.{State}
use Rattle.step.specs.declared.forms.Step.{Step}
use Rattle.step.specs.declared.steps.Fault.TheVariants.{StartPastEnd}
use Rattle.step.specs.declared.steps.Outcome.{Outcome}
use Rattle.step.specs.declared.steps.Outcome.TheVariants.{Done, Trapped, Refused}
use Rattle.step.specs.declared.steps.Performed.{Performed}
use Rattle.step.specs.declared.runs.End.{End}
use Rattle.step.specs.declared.runs.Ran.{Ran}
use Rattle.step.specs.Run.{Spot, here, at_end, past_end, spot_of, ends, counted, after, followed, met, run_of}
use Rattle.step.specs.Parts.{goes_on, run_in_parts, PartsGo, total}

pub no : {A : Type 0} → false ≡ true → A
no e = let z : ◌≡◌ {A = ℕ} 0 1 = cc in absurd (omega arith)

-- ---- what stands at a place

-- d is nowhere read
pub spot_here : (l : List Step) (p : ℕ) (d : Step) → p < length l → spot_of l p ≡ here (get_or l p d)
spot_here [] p d h = absurd (omega arith)
spot_here (k ∷ ks) zero d h = refl
spot_here (k ∷ ks) (suc p) d h = spot_here ks p d (omega arith)

pub spot_end : (l : List Step) (p : ℕ) → p ≡ length l → spot_of l p ≡ at_end
spot_end [] zero h = refl
spot_end [] (suc p) h = absurd (omega arith)
spot_end (k ∷ ks) zero h = absurd (omega arith)
spot_end (k ∷ ks) (suc p) h = spot_end ks p (omega arith)

pub spot_past : (l : List Step) (p : ℕ) → length l < p → spot_of l p ≡ past_end
spot_past [] zero h = absurd (omega arith)
spot_past [] (suc p) h = refl
spot_past (k ∷ ks) zero h = absurd (omega arith)
spot_past (k ∷ ks) (suc p) h = spot_past ks p (omega arith)

pub after_none : (r : Ran) → after 0 0 r ≡ r
after_none r = simp (zero-add)

module _ (f : State → Step → Performed) (l : List Step) where
  -- ---- what a run makes of a place
  pub run_past : (s : State) (p b : ℕ) → spot_of l p ≡ past_end → run_of f l s p b ≡ ends (End.Refused StartPastEnd p 0) s p
  unfolding run_of
  run_past s p zero e = rw e
  run_past s p (suc b) e = rw e

  pub run_end : (s : State) (p b : ℕ) → spot_of l p ≡ at_end → run_of f l s p b ≡ ends End.Finished s p
  unfolding run_of
  run_end s p zero e = rw e
  run_end s p (suc b) e = rw e

  pub run_none : (s : State) (p : ℕ) (k : Step) → spot_of l p ≡ here k → run_of f l s p 0 ≡ ends End.Budget s p
  unfolding run_of
  run_none s p k e = rw e

  pub run_step : (s : State) (p b : ℕ) (k : Step) → spot_of l p ≡ here k → run_of f l s p (suc b) ≡ followed (f s k).outcome (f s k) p k.line (λ t q. run_of f l t q b)
  unfolding run_of
  run_step s p b k e = rw e

  -- ---- the steps done
  next_followed : (o : Outcome) (w : Performed) (p line : ℕ) (on : State → ℕ → Ran) → ((t : State) (q : ℕ) → (on t q).next ≡ q + (on t q).steps)
      → (followed o w p line on).next ≡ p + (followed o w p line on).steps
  next_followed Done w p line on h = h w.state (suc p) ∙ omega arith
  next_followed (Trapped x) w p line on h = omega arith
  next_followed (Refused x) w p line on h = omega arith

  next_met : (o : Spot) (s : State) (p : ℕ) (on : Step → Ran) → ((k : Step) → (on k).next ≡ p + (on k).steps) → (met o s p on).next ≡ p + (met o s p on).steps
  next_met past_end s p on h = omega arith
  next_met at_end s p on h = omega arith
  next_met (here k) s p on h = h k

  -- the steps done are the next place less the start place, however the run ends: no step count can be made up
  pub run_next : (s : State) (p b : ℕ) → (run_of f l s p b).next ≡ p + (run_of f l s p b).steps
  unfolding run_of
  run_next s p zero = next_met (spot_of l p) s p _ (λ k. omega arith)
  run_next s p (suc b) = next_met (spot_of l p) s p _ (λ k. next_followed (f s k).outcome (f s k) p k.line _ (λ t q. run_next t q b))

  -- ---- the budget
  few_followed : (o : Outcome) (w : Performed) (p line b : ℕ) (on : State → ℕ → Ran) → ((t : State) (q : ℕ) → (on t q).steps ≤ b) → (followed o w p line on).steps ≤ suc b
  few_followed Done w p line b on h = omega (arith, h w.state (suc p))
  few_followed (Trapped x) w p line b on h = omega arith
  few_followed (Refused x) w p line b on h = omega arith

  few_met : (o : Spot) (s : State) (p b : ℕ) (on : Step → Ran) → ((k : Step) → (on k).steps ≤ b) → (met o s p on).steps ≤ b
  few_met past_end s p b on h = omega arith
  few_met at_end s p b on h = omega arith
  few_met (here k) s p b on h = h k

  -- no more steps are done than the budget allows
  pub run_few : (s : State) (p b : ℕ) → (run_of f l s p b).steps ≤ b
  unfolding run_of
  run_few s p zero = few_met (spot_of l p) s p 0 _ (λ k. omega arith)
  run_few s p (suc b) = few_met (spot_of l p) s p (suc b) _ (λ k. few_followed (f s k).outcome (f s k) p k.line b _ (λ t q. run_few t q b))

  like_followed : (o : Outcome) (w : Performed) (p line : ℕ) (on on' : State → ℕ → Ran) → ((t : State) → on t (suc p) ≡ on' t (suc p)) → followed o w p line on ≡ followed o w p line on'
  like_followed Done w p line on on' h = ap (counted w.clocks) (h w.state)
  like_followed (Trapped x) w p line on on' h = refl
  like_followed (Refused x) w p line on on' h = refl

  enough_at : (m b : ℕ) (s : State) (p : ℕ) (o : Spot) → spot_of l p ≡ o → ((t : State) → run_of f l t (suc p) b ≡ run_of f l t (suc p) m) → run_of f l s p (suc b) ≡ run_of f l s p (suc m)
  enough_at m b s p past_end at h = run_past s p (suc b) at ∙ sym (run_past s p (suc m) at)
  enough_at m b s p at_end at h = run_end s p (suc b) at ∙ sym (run_end s p (suc m) at)
  enough_at m b s p (here k) at h =
      run_step s p b k at
      ∙ (like_followed (f s k).outcome (f s k) p k.line (λ t q. run_of f l t q b) (λ t q. run_of f l t q m) h
      ∙ sym (run_step s p m k at))

  -- a budget of the steps that stand from p to the end is enough, whatever the budget beyond it
  pub run_enough : (m b : ℕ) (s : State) (p : ℕ) → p + m ≡ length l → m ≤ b → run_of f l s p b ≡ run_of f l s p m
  run_enough zero b s p e h = run_end s p b (spot_end l p (omega arith)) ∙ sym (run_end s p 0 (spot_end l p (omega arith)))
  run_enough (suc m) zero s p e h = absurd (omega arith)
  run_enough (suc m) (suc b) s p e h = enough_at m b s p (spot_of l p) refl (λ t. run_enough m b t (suc p) (omega arith) (omega arith))

  -- ---- a run of j and then of k steps
  -- what a run comes to that is halted as r and continued with the budget k
  abbrev pub continued : (k : ℕ) → Ran → Ran
  continued k r = after r.steps r.clocks (run_of f l r.state r.next k)

  split_followed : (o : Outcome) (w : Performed) (p line k : ℕ) (first whole : State → ℕ → Ran) → ((t : State) (q : ℕ) → goes_on (first t q).end ≡ true → whole t q ≡ continued k (first t q))
      → goes_on (followed o w p line first).end ≡ true → followed o w p line whole ≡ continued k (followed o w p line first)
  split_followed Done w p line k first whole h g = simp (h w.state (suc p) g, add_assoc, suc-add)
  split_followed (Trapped x) w p line k first whole h g = no g
  split_followed (Refused x) w p line k first whole h g = no g

  split_met : (o : Spot) (s : State) (p k : ℕ) (first whole : Step → Ran) → (o ≡ at_end → run_of f l s p k ≡ ends End.Finished s p)
      → ((t : Step) → goes_on (first t).end ≡ true → whole t ≡ continued k (first t))
      → goes_on (met o s p first).end ≡ true → met o s p whole ≡ continued k (met o s p first)
  split_met past_end s p k first whole e h g = no g
  split_met at_end s p k first whole e h g = sym (ap (after 0 0) (e refl) ∙ after_none _)
  split_met (here t) s p k first whole e h g = h t g

  -- the first run takes no step
  split_none : (o : Spot) (s : State) (p k : ℕ) → goes_on (met o s p (λ t. ends End.Budget s p)).end ≡ true
      → run_of f l s p k ≡ continued k (met o s p (λ t. ends End.Budget s p))
  split_none past_end s p k g = no g
  split_none at_end s p k g = sym (after_none _)
  split_none (here t) s p k g = sym (after_none _)

  -- A run of j and then of k steps equals one of j + k, where the first was neither trapped nor refused; steps and figures add. The code's budgets
  -- and step counts have 32 bits: j, k and j + k are budgets where they are below 2 ^ 32, and by `run_few` the steps then are too
  pub run_split : (s : State) (p j k : ℕ) → goes_on (run_of f l s p j).end ≡ true → run_of f l s p (j + k) ≡ continued k (run_of f l s p j)
  unfolding run_of
  run_split s p zero k g = ap (run_of f l s p) (zero-add k) ∙ split_none (spot_of l p) s p k g
  run_split s p (suc j) k g =
      ap (run_of f l s p) (suc-add j k)
      ∙ split_met (spot_of l p) s p k _ _ (run_end s p k) (λ t. split_followed (f s t).outcome (f s t) p t.line k (λ u q. run_of f l u q j) (λ u q. run_of f l u q (j + k)) (λ u q. run_split u q j k)) g

  -- what goes on after j + k steps went on after j
  going_followed : (o : Outcome) (w : Performed) (p line : ℕ) (on on' : State → ℕ → Ran) → ((t : State) (q : ℕ) → goes_on (on t q).end ≡ true → goes_on (on' t q).end ≡ true)
      → goes_on (followed o w p line on).end ≡ true → goes_on (followed o w p line on').end ≡ true
  going_followed Done w p line on on' h g = h w.state (suc p) g
  going_followed (Trapped x) w p line on on' h g = g
  going_followed (Refused x) w p line on on' h g = g

  going_met : (o : Spot) (s : State) (p : ℕ) (on on' : Step → Ran) → ((k : Step) → goes_on (on k).end ≡ true → goes_on (on' k).end ≡ true)
      → goes_on (met o s p on).end ≡ true → goes_on (met o s p on').end ≡ true
  going_met past_end s p on on' h g = g
  going_met at_end s p on on' h g = g
  going_met (here k) s p on on' h g = h k g

  going_none : (s : State) (p b : ℕ) → goes_on (run_of f l s p b).end ≡ true → goes_on (run_of f l s p 0).end ≡ true
  unfolding run_of
  going_none s p zero g = g
  going_none s p (suc b) g = going_met (spot_of l p) s p _ _ (λ k g. refl) g

  pub run_going : (s : State) (p j k : ℕ) → goes_on (run_of f l s p (j + k)).end ≡ true → goes_on (run_of f l s p j).end ≡ true
  unfolding run_of
  run_going s p zero k g = going_none s p (0 + k) g
  run_going s p (suc j) k g =
      going_met (spot_of l p) s p _ _ (λ t. going_followed (f s t).outcome (f s t) p t.line (λ u q. run_of f l u q (j + k)) (λ u q. run_of f l u q j) (λ u q. run_going u q j k))
      (subst (λ (b : ℕ). goes_on (run_of f l s p b).end ≡ true) (suc-add j k) g)

  -- however often a run is halted, it comes to what it would have come to
  pub run_in_parts_lem : (bs : List ℕ) (s : State) (p b : ℕ) → PartsGo f l s p b bs → run_in_parts f l s p b bs ≡ run_of f l s p (total b bs)
  run_in_parts_lem [] s p b g = refl
  run_in_parts_lem (c ∷ bs) s p b g =
      let r = run_of f l s p b in ap (after r.steps r.clocks) (run_in_parts_lem bs r.state r.next c g.1) ∙ sym (run_split s p b (total c bs) g.0)

  -- where the whole run goes on, so does every part
  pub parts_go : (bs : List ℕ) (s : State) (p b : ℕ) → goes_on (run_of f l s p (total b bs)).end ≡ true → PartsGo f l s p b bs
  parts_go [] s p b g = tt
  parts_go (c ∷ bs) s p b g =
      let r = run_of f l s p b in
      let first = run_going s p b (total c bs) g in
      (first, parts_go bs r.state r.next c (subst (λ (q : Ran). goes_on q.end ≡ true) (run_split s p b (total c bs) first) g))

  -- ---- halted after any step

  step_state : (o : Outcome) (w : Performed) (p line : ℕ) (on : State → ℕ → Ran) → ((t : State) (q : ℕ) → (on t q).state ≡ t) → (followed o w p line on).state ≡ w.state
  step_state Done w p line on h = h w.state (suc p)
  step_state (Trapped x) w p line on h = refl
  step_state (Refused x) w p line on h = refl

  none_state : (t : State) (q : ℕ) → (run_of f l t q 0).state ≡ t
  unfolding run_of
  none_state t q = go (spot_of l q)
    where
      go : (o : Spot) → (met o t q (λ k. ends End.Budget t q)).state ≡ t
      go past_end = refl
      go at_end = refl
      go (here k) = refl

  -- Halted after j + 1 steps, a run has the state that the step at its next place makes of the state after j. So each step does its own work: a run
  -- that does all of it in the first step and idles after is none
  pub run_halted : (s : State) (p j : ℕ) (k : Step) → goes_on (run_of f l s p j).end ≡ true → spot_of l (run_of f l s p j).next ≡ here k
      → (run_of f l s p (suc j)).state ≡ (f (run_of f l s p j).state k).state
  run_halted s p j k g at =
      let r = run_of f l s p j in
      ap (λ (b : ℕ). (run_of f l s p b).state) (sym (add-one j))
      ∙ (ap (λ (r : Ran). r.state) (run_split s p j 1 g)
      ∙ (ap (λ (r : Ran). r.state) (run_step r.state r.next 0 k at)
      ∙ step_state (f r.state k).outcome (f r.state k) r.next k.line (λ t q. run_of f l t q 0) none_state))
