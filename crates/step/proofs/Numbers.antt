-- A run's end by its numbers (`end_numbers`: which end, class or refusal number, place). Over any step function f and any listing l, from where a run
-- stands:
--     past_numbers, end_numbers_lem, spent_numbers   a start past the end: 3, 10 and the start place; at the end: 0; the budget spent: 1
--     refused_numbers, trapped_numbers           3 or 2, the step's own number or class, and its place; state, next place, steps and figures with them
--     done_on                                    a step that is neither refused nor trapped: the run goes on after it
--     going_number, split_numbers                a run goes on exactly where it ends with 0 or 1; continued from there it ends as it ends from there
--     run_places                                 however far a run went: refused, its next place is the place told; trapped, it is the one after
-- and of the steps of document 01:
--     run_refused                                a refused step leaves the run as it stood before it
--     run_inside                                 10 is given only where the start is past the end
-- What a step's own number and class are: `perform_number`, `perform_class` of Sound. Assumes nothing.
use Rattle.std.proofs.Common.{◌≡◌, ℕ, zero, suc, ◌+◌, ◌<◌, ◌≤◌, Bool, true, false, cond, leb, List, [], ◌∷◌, length, get_or, refl, ap, ◌∙◌, subst, arith}
use native.Mathlib.Decide.{dec_lt}
use Rattle.step.specs.declared.registers.State.{State}
use Rattle.step.specs.declared.forms.Step.{Step}
use Rattle.step.specs.declared.steps.Fault.{Fault}
use Rattle.step.specs.declared.steps.Fault.TheVariants.{BadSmall, NoSuchSize, NoSuchRegister, StartPastEnd}
use Rattle.step.specs.declared.steps.Trap.{Trap}
use Rattle.step.specs.declared.steps.Trap.TheVariants.{Over, Short, Below}
use Rattle.step.specs.declared.steps.Outcome.{Outcome}
use Rattle.step.specs.declared.steps.Outcome.TheVariants.{Done, Trapped, Refused}
use Rattle.step.specs.declared.steps.Performed.{Performed}
use Rattle.step.specs.declared.runs.End.{End}
use Rattle.step.specs.declared.runs.Ran.{Ran}
use Rattle.step.specs.Perform.{number_of, class_of, perform_of, refused_with, trapped_with}
use Rattle.step.specs.Run.{Spot, here, at_end, past_end, spot_of, ends, counted, followed, met, run_of, end_numbers}
use Rattle.step.specs.Parts.{goes_on}
use Rattle.step.proofs.Laws.{no as none, spot_here, spot_end, spot_past, run_past, run_end, run_none, run_step, run_split}
use Rattle.step.proofs.Sound.{registers_of, size_of, small_of, perform_number, perform_kept}
use Rattle.step.specs.Course.{nowhere}

pub going_number : (e : End) → goes_on e ≡ leb (get_or (end_numbers e) 0 0) 1
going_number End.Finished = refl
going_number End.Budget = refl
going_number (End.Trapped trap p line) = refl
going_number (End.Refused fault p line) = refl

-- no fault and no trap has the number 0
number_some : (fault : Fault) → number_of fault ≡ 0 → ⊥
number_some BadSmall e = omega arith
number_some NoSuchSize e = omega arith
number_some NoSuchRegister e = omega arith
number_some StartPastEnd e = omega arith

class_some : (trap : Trap) → class_of trap ≡ 0 → ⊥
class_some Over e = omega arith
class_some Short e = omega arith
class_some Below e = omega arith

-- ---- by the step's outcome
refused_followed : (o : Outcome) (w : Performed) (p line : ℕ) (on : State → ℕ → Ran) → (refused_with o ≡ 0 → ⊥)
    → let r = followed o w p line on in (end_numbers r.end ≡ 3 ∷ refused_with o ∷ p ∷ []) × (r ≡ ends r.end w.state p)
refused_followed Done w p line on h = absurd (h refl)
refused_followed (Trapped trap) w p line on h = absurd (h refl)
refused_followed (Refused fault) w p line on h = (refl, refl)

trapped_followed : (o : Outcome) (w : Performed) (p line : ℕ) (on : State → ℕ → Ran) → (trapped_with o ≡ 0 → ⊥)
    → let r = followed o w p line on in (end_numbers r.end ≡ 2 ∷ trapped_with o ∷ p ∷ []) × (r ≡ counted w.clocks (ends r.end w.state (suc p)))
trapped_followed Done w p line on h = absurd (h refl)
trapped_followed (Trapped trap) w p line on h = (refl, refl)
trapped_followed (Refused fault) w p line on h = absurd (h refl)

done_followed : (o : Outcome) (w : Performed) (p line : ℕ) (on : State → ℕ → Ran) → refused_with o ≡ 0 → trapped_with o ≡ 0
    → followed o w p line on ≡ counted w.clocks (on w.state (suc p))
done_followed Done w p line on h k = refl
done_followed (Trapped trap) w p line on h k = absurd (class_some trap k)
done_followed (Refused fault) w p line on h k = absurd (number_some fault h)

-- ---- the place told and the next place
pub record Places (r : Ran) : Type 0 where
  pub of_refusal : (n p : ℕ) → end_numbers r.end ≡ 3 ∷ n ∷ p ∷ [] → r.next ≡ p
  pub of_trap : (c p : ℕ) → end_numbers r.end ≡ 2 ∷ c ∷ p ∷ [] → r.next ≡ suc p

-- number k of two ends that have the same numbers; so two of different kinds have not
same : (k : ℕ) {xs ys : List ℕ} → xs ≡ ys → get_or xs k 0 ≡ get_or ys k 0
same k e = ap (λ (l : List ℕ). get_or l k 0) e

other : {A : Type 0} {j k : ℕ} {xs ys : List ℕ} → (j ≡ k → ⊥) → j ∷ xs ≡ k ∷ ys → A
other ne e = absurd (ne (same 0 e))

-- an end that is neither trapped nor refused
goes_places : (e : End) (s : State) (p : ℕ) → goes_on e ≡ true → Places (ends e s p)
goes_places End.Finished s p g = record { of_refusal = λ n q. other (λ e. omega arith); of_trap = λ c q. other (λ e. omega arith) }
goes_places End.Budget s p g = record { of_refusal = λ n q. other (λ e. omega arith); of_trap = λ c q. other (λ e. omega arith) }
goes_places (End.Trapped trap q line) s p g = none g
goes_places (End.Refused fault q line) s p g = none g

places_followed : (o : Outcome) (w : Performed) (p line : ℕ) (on : State → ℕ → Ran) → ((t : State) (q : ℕ) → Places (on t q)) → Places (followed o w p line on)
places_followed Done w p line on h = let u = h w.state (suc p) in record { of_refusal = u.of_refusal; of_trap = u.of_trap }
places_followed (Trapped trap) w p line on h = record { of_refusal = λ n q. other (λ e. omega arith); of_trap = λ c q e. ap suc (same 2 e) }
places_followed (Refused fault) w p line on h = record { of_refusal = λ n q e. same 2 e; of_trap = λ c q. other (λ e. omega arith) }

places_met : (o : Spot) (s : State) (p : ℕ) (on : Step → Ran) → ((k : Step) → Places (on k)) → Places (met o s p on)
places_met past_end s p on h = record { of_refusal = λ n q e. same 2 e; of_trap = λ c q. other (λ e. omega arith) }
places_met at_end s p on h = goes_places End.Finished s p refl
places_met (here k) s p on h = h k

module _ (f : State → Step → Performed) (l : List Step) where
  -- ---- where no step is taken
  pub past_numbers : (s : State) (p b : ℕ) → length l < p → let r = run_of f l s p b in (end_numbers r.end ≡ 3 ∷ 10 ∷ p ∷ []) × (r ≡ ends r.end s p)
  past_numbers s p b h = rw (run_past f l s p b (spot_past l p h)) (refl, refl)

  pub end_numbers_lem : (s : State) (p b : ℕ) → p ≡ length l → let r = run_of f l s p b in (end_numbers r.end ≡ 0 ∷ 0 ∷ 0 ∷ []) × (r ≡ ends r.end s p)
  end_numbers_lem s p b h = rw (run_end f l s p b (spot_end l p h)) (refl, refl)

  pub spent_numbers : (s : State) (p : ℕ) → p < length l → let r = run_of f l s p 0 in (end_numbers r.end ≡ 1 ∷ 0 ∷ 0 ∷ []) × (r ≡ ends r.end s p)
  spent_numbers s p h = rw (run_none f l s p (get_or l p nowhere) (spot_here l p nowhere h)) (refl, refl)

  -- ---- the step at the place where the run stands
  pub refused_numbers : (s : State) (p b : ℕ) (k : Step) → spot_of l p ≡ here k → (refused_with (f s k).outcome ≡ 0 → ⊥)
      → let r = run_of f l s p (suc b) in (end_numbers r.end ≡ 3 ∷ refused_with (f s k).outcome ∷ p ∷ []) × (r ≡ ends r.end (f s k).state p)
  refused_numbers s p b k at h = rw (run_step f l s p b k at) (refused_followed (f s k).outcome (f s k) p k.line (λ t q. run_of f l t q b) h)

  pub trapped_numbers : (s : State) (p b : ℕ) (k : Step) → spot_of l p ≡ here k → (trapped_with (f s k).outcome ≡ 0 → ⊥)
      → let r = run_of f l s p (suc b) in (end_numbers r.end ≡ 2 ∷ trapped_with (f s k).outcome ∷ p ∷ []) × (r ≡ counted (f s k).clocks (ends r.end (f s k).state (suc p)))
  trapped_numbers s p b k at h = rw (run_step f l s p b k at) (trapped_followed (f s k).outcome (f s k) p k.line (λ t q. run_of f l t q b) h)

  pub done_on : (s : State) (p b : ℕ) (k : Step) → spot_of l p ≡ here k → refused_with (f s k).outcome ≡ 0 → trapped_with (f s k).outcome ≡ 0
      → run_of f l s p (suc b) ≡ counted (f s k).clocks (run_of f l (f s k).state (suc p) b)
  done_on s p b k at h c = run_step f l s p b k at ∙ done_followed (f s k).outcome (f s k) p k.line (λ t q. run_of f l t q b) h c

  -- ---- a run of more than one step
  pub split_numbers : (s : State) (p j b : ℕ) {numbers : List ℕ} → let r = run_of f l s p j in goes_on r.end ≡ true
      → end_numbers (run_of f l r.state r.next b).end ≡ numbers → end_numbers (run_of f l s p (j + b)).end ≡ numbers
  split_numbers s p j b g e = ap (λ (r : Ran). end_numbers r.end) (run_split f l s p j b g) ∙ e

  pub run_places : (s : State) (p b : ℕ) → Places (run_of f l s p b)
  unfolding run_of
  run_places s p zero = places_met (spot_of l p) s p _ (λ k. goes_places End.Budget s p refl)
  run_places s p (suc b) = places_met (spot_of l p) s p _ (λ k. places_followed (f s k).outcome (f s k) p k.line _ (λ t q. run_places t q b))

-- ---- steps of document 01

pub run_refused : (l : List Step) (s : State) (p b : ℕ) (k : Step) → spot_of l p ≡ here k → (refused_with (perform_of s k).outcome ≡ 0 → ⊥)
    → let r = run_of perform_of l s p (suc b) in (end_numbers r.end ≡ 3 ∷ refused_with (perform_of s k).outcome ∷ p ∷ []) × (r ≡ ends r.end s p)
run_refused l s p b k at h =
    let told = refused_numbers perform_of l s p b k at h in
    (told.0, told.1 ∙ ap (λ (t : State). ends (run_of perform_of l s p (suc b)).end t p) (perform_kept s k.size k.form h).0)

-- a step's number is at most 3
step_few : (a b c : Bool) → cond a (cond b (cond c 0 1) 2) 3 ≤ 3
step_few false b c = omega arith
step_few true false c = omega arith
step_few true true false = omega arith
step_few true true true = omega arith

perform_few : (s : State) (k : Step) → refused_with (perform_of s k).outcome ≤ 3
perform_few s k = rw (perform_number s k.size k.form) (step_few (registers_of k.form) (size_of k.size k.form) (small_of k.form))

-- refused, if at all, with such a number
abbrev Few : End → Type 0
Few e = (n p : ℕ) → end_numbers e ≡ 3 ∷ n ∷ p ∷ [] → n ≤ 3

few_followed : (o : Outcome) (w : Performed) (p line : ℕ) (on : State → ℕ → Ran) → refused_with o ≤ 3 → ((t : State) → Few (on t (suc p)).end) → Few (followed o w p line on).end
few_followed Done w p line on few h = h w.state
few_followed (Trapped trap) w p line on few h = λ n q. other (λ e. omega arith)
few_followed (Refused fault) w p line on few h = λ n q e. subst (λ (n : ℕ). n ≤ 3) (same 1 e) few

module _ (f : State → Step → Performed) (l : List Step) (few : (s : State) (k : Step) → refused_with (f s k).outcome ≤ 3) where
  few_none : (s : State) (p : ℕ) → p ≤ length l → Dec (p < length l) → Few (run_of f l s p 0).end
  few_none s p h (yes inside) = rw (run_none f l s p (get_or l p nowhere) (spot_here l p nowhere inside)) (λ n q. other (λ e. omega arith))
  few_none s p h (no past) = rw (run_end f l s p 0 (spot_end l p (omega arith))) (λ n q. other (λ e. omega arith))

  few_step : (s : State) (p b : ℕ) → p ≤ length l → Dec (p < length l) → ((t : State) → suc p ≤ length l → Few (run_of f l t (suc p) b).end)
      → Few (run_of f l s p (suc b)).end
  few_step s p b h (yes inside) on =
      let k = get_or l p nowhere in
      rw (run_step f l s p b k (spot_here l p nowhere inside))
      (few_followed (f s k).outcome (f s k) p k.line (λ t q. run_of f l t q b) (few s k) (λ t. on t (omega arith)))
  few_step s p b h (no past) on = rw (run_end f l s p (suc b) (spot_end l p (omega arith))) (λ n q. other (λ e. omega arith))

  few_inside : (s : State) (p b : ℕ) → p ≤ length l → Few (run_of f l s p b).end
  few_inside s p zero h = few_none s p h (dec_lt p (length l))
  few_inside s p (suc b) h = few_step s p b h (dec_lt p (length l)) (λ t. few_inside t (suc p) b)

-- started in the listing or at its end, a run is refused only with a step's number: 10 is given exactly when the start is past the end
pub run_inside : (l : List Step) (s : State) (p b : ℕ) → p ≤ length l → (n q : ℕ) → end_numbers (run_of perform_of l s p b).end ≡ 3 ∷ n ∷ q ∷ [] → n ≤ 3
run_inside l s p b h = few_inside perform_of l perform_few s p b h
