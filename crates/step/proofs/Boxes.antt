-- What a rack leaves in its rows, over any step function f and any listing l.
--     plan_fits, plan_fitting          exactly when a rack is run
--     plan_many, plan_short, plan_less   when it is refused: too many sets, too few start places, too few slots
--     rack_refused   a refused rack changes nothing
--     rack_run       all boxes of one that is not refused are run
--     rack_box       each box is the single run on its set, whatever becomes of the others
--     rack_each      so what holds of every single run holds of each box
--     rack_spare     spare slots stay
--     rack_parts     a rack that is halted and continued is, box by box, the run in parts
-- Before them the laws of the loop over the boxes. Assumes nothing.
use Rattle.std.proofs.Common.{◌≡◌, ℕ, zero, suc, ◌+◌, ◌<◌, ◌≤◌, Bool, true, false, cond, ◌&&◌, leb, Ok, Err, IsOk, IsErr, List, [], ◌∷◌, map, length, get_or, take, set, refl, ap, subst, ◌∙◌, ap₂, arith, length-take-le, take_all, get_or-take, le-leb, leb-true}
use mathlib.Core.Path.{subst⁻¹}
use mathlib.Core.Bool.{false≢true}
use lib.ListN.{length-map, get_or-map}
use borrow.Author.Tests.{lt-leb}
use Rattle.step.specs.declared.registers.State.{State}
use Rattle.step.specs.declared.forms.Step.{Step}
use Rattle.step.specs.declared.steps.Performed.{Performed}
use Rattle.step.specs.declared.runs.Ran.{Ran}
use Rattle.step.specs.declared.racks.Boxed.{Boxed}
use Rattle.step.specs.declared.racks.TooManyBoxes.{TooManyBoxes}
use Rattle.step.specs.Run.{after, run_of}
use Rattle.step.specs.Lent.{over}
use Rattle.step.specs.Parts.{run_in_parts}
use Rattle.step.specs.Rack.{boxes_max, Plan, boxes_of, plan_of, refused_rack, state_of, boxed_of, Rack, left, runs_of, planned, rack_of, ran_by, box_at, next_of, box_in_parts}
use Rattle.step.proofs.Rows.{over_length, over_put, over_before, over_past}

-- ---- when a rack is run

pub record Fitting (sets starts answers : ℕ) : Type 0 where
  pub few : sets ≤ boxes_max
  pub places : sets ≤ starts
  pub slots : sets ≤ answers

never : {A : Type 0} → IsOk refused_rack → A
never e = absurd (false≢true e)

module _ (a b c : ℕ) where
  pub plan_fits : Fitting a b c → plan_of a b c ≡ Ok a
  plan_fits h = simp (le-leb a boxes_max h.few, le-leb a b h.places, le-leb a c h.slots)

  pub plan_fitting : IsOk (plan_of a b c) → Fitting a b c
  plan_fitting = by_tests (leb a boxes_max) (leb a b) (leb a c) refl refl refl
    where
      by_tests : (t u v : Bool) → leb a boxes_max ≡ t → leb a b ≡ u → leb a c ≡ v → IsOk (plan_of a b c) → Fitting a b c
      by_tests true true true p q r e = record { few = leb-true a boxes_max p; places = leb-true a b q; slots = leb-true a c r }
      by_tests true true false p q r e = never (rw (p, q, r) at e)
      by_tests true false v p q r e = never (rw (p, q) at e)
      by_tests false u v p q r e = never (rw p at e)

  pub plan_many : boxes_max < a → plan_of a b c ≡ refused_rack
  plan_many h = simp (lt-leb a boxes_max h)

  -- a conjunction with a false part
  pub plan_short : b < a → plan_of a b c ≡ refused_rack
  plan_short h = by_test (leb a boxes_max) (leb a b) (leb a c) (lt-leb a b h)
    where
      by_test : (t u v : Bool) → u ≡ false → cond (t && u && v) (Ok a) refused_rack ≡ refused_rack
      by_test true u v e = simp e
      by_test false u v e = refl

  pub plan_less : c < a → plan_of a b c ≡ refused_rack
  plan_less h = by_test (leb a boxes_max) (leb a b) (leb a c) (lt-leb a c h)
    where
      by_test : (t u v : Bool) → v ≡ false → cond (t && u && v) (Ok a) refused_rack ≡ refused_rack
      by_test true true v e = simp e
      by_test true false v e = refl
      by_test false u v e = refl

-- a rack runs no more boxes than it has sets, start places or slots
pub record Within (n a b c : ℕ) : Type 0 where
  pub sets : n ≤ a
  pub starts : n ≤ b
  pub answers : n ≤ c

none_within : (a b c : ℕ) → Within 0 a b c
none_within a b c = record { sets = omega arith; starts = omega arith; answers = omega arith }

within_by : (t u v : Bool) (a b c : ℕ) → leb a boxes_max ≡ t → leb a b ≡ u → leb a c ≡ v → Within (boxes_of (plan_of a b c)) a b c
within_by true true true a b c p q r = rw (p, q, r) (record { sets = omega arith; starts = leb-true a b q; answers = leb-true a c r })
within_by true true false a b c p q r = rw (p, q, r) (none_within a b c)
within_by true false v a b c p q r = rw (p, q) (none_within a b c)
within_by false u v a b c p q r = rw p (none_within a b c)

pub plan_within : (sets starts answers : ℕ) → Within (boxes_of (plan_of sets starts answers)) sets starts answers
plan_within a b c = within_by (leb a boxes_max) (leb a b) (leb a c) a b c refl refl refl

pub within_plan : (n a b c : ℕ) → plan_of a b c ≡ Ok n → Within n a b c
within_plan n a b c e = subst (λ (p : Plan). Within (boxes_of p) a b c) e (plan_within a b c)

-- ---- the single runs

module _ (f : State → Step → Performed) (l : List Step) (b : ℕ) where
  -- as many as there are sets, where there is a start place for each
  pub runs_many : (sets : List State) (starts : List ℕ) → length sets ≤ length starts → length (runs_of f l sets starts b) ≡ length sets
  unfolding runs_of
  runs_many [] starts h = refl
  runs_many (s ∷ sets) [] h = absurd (omega arith)
  runs_many (s ∷ sets) (p ∷ starts) h = omega (arith, runs_many sets starts (omega arith))

  -- the d's stand past the rows' ends
  pub runs_at : (i : ℕ) (sets : List State) (starts : List ℕ) (d : Ran) (s₀ : State) (p₀ : ℕ) → i < length sets → i < length starts
      → get_or (runs_of f l sets starts b) i d ≡ run_of f l (get_or sets i s₀) (get_or starts i p₀) b
  unfolding runs_of
  runs_at i [] starts d s₀ p₀ h k = absurd (omega arith)
  runs_at i (s ∷ sets) [] d s₀ p₀ h k = absurd (omega arith)
  runs_at zero (s ∷ sets) (p ∷ starts) d s₀ p₀ h k = refl
  runs_at (suc i) (s ∷ sets) (p ∷ starts) d s₀ p₀ h k = runs_at i sets starts d s₀ p₀ (omega arith) (omega arith)

  -- of the first n sets
  module _ (n : ℕ) (sets : List State) (starts : List ℕ) (h : n ≤ length sets) (k : n ≤ length starts) where
    pub first_many : length (runs_of f l (take n sets) starts b) ≡ n
    first_many = runs_many (take n sets) starts (omega (arith, length-take-le n sets h)) ∙ length-take-le n sets h

    pub first_at_lem : (i : ℕ) (d : Ran) (s₀ : State) (p₀ : ℕ) → i < n → get_or (runs_of f l (take n sets) starts b) i d ≡ run_of f l (get_or sets i s₀) (get_or starts i p₀) b
    first_at_lem i d s₀ p₀ g =
        runs_at i (take n sets) starts d s₀ p₀ (omega (arith, length-take-le n sets h)) (omega arith)
        ∙ ap (λ (s : State). run_of f l s (get_or starts i p₀) b) (get_or-take n sets i s₀ g)

-- ---- a row of which the first i are of the runs: the loop's laws

-- the row after i turns
abbrev pub row_at : {B : Type 0} → (g : Ran → B) → List Ran → (old : List B) → (i : ℕ) → List B
row_at g rs old i = over (map g (take i rs)) old

module _ {B : Type 0} (g : Ran → B) (rs : List Ran) (old : List B) (fits : length rs ≤ length old) where
  front : (i : ℕ) → i ≤ length rs → length (map g (take i rs)) ≡ i
  front i h = length-map (take i rs) g ∙ length-take-le i rs h

  pub row_length : (i : ℕ) → i ≤ length rs → length (row_at g rs old i) ≡ length old
  row_length i h = over_length (map g (take i rs)) old (omega (arith, front i h))

  -- the next slot still is as it was
  pub row_still : (i : ℕ) (d : B) → i < length rs → get_or (row_at g rs old i) i d ≡ get_or old i d
  row_still i d h = over_past (map g (take i rs)) old i d (omega (arith, front i (omega arith)))

  pub row_next : (i : ℕ) (r d : Ran) → r ≡ get_or rs i d → i < length rs → set (row_at g rs old i) i (g r) ≡ row_at g rs old (i + 1)
  row_next i r d e h =
      ap (λ (x : Ran). set (row_at g rs old i) i (g x)) e ∙ over_put g old rs i d h (omega arith)

  pub row_last : (i : ℕ) → i ≡ length rs → row_at g rs old i ≡ over (map g rs) old
  row_last i e = ap (λ (xs : List Ran). over (map g xs) old) (take_all i rs (omega (arith, e)))

-- ---- what a rack leaves

module _ (f : State → Step → Performed) (l : List Step) (sets : List State) (starts : List ℕ) (b : ℕ) (answers : List Boxed) where
  -- a plan that is no number of boxes
  pub planned_none : {p told : Plan} {refusal : TooManyBoxes} → IsErr told → p ≡ Err refusal → left told sets answers ≡ planned f l sets starts b answers p
  unfolding runs_of
  planned_none {told = Err refusal} h e = rw e refl
  planned_none {told = Ok boxes} h e = absurd (false≢true h)

  -- nothing changes
  pub rack_refused : plan_of (length sets) (length starts) (length answers) ≡ refused_rack → rack_of f l sets starts b answers ≡ left refused_rack sets answers
  unfolding runs_of
  rack_refused e = ap (planned f l sets starts b answers) e

  module _ (h : Fitting (length sets) (length starts) (length answers)) where
    abbrev runs : List Ran
    runs = runs_of f l sets starts b

    as_many : length runs ≡ length sets
    as_many = runs_many f l b sets starts h.places

    pub rack_run : rack_of f l sets starts b answers ≡ left (Ok (length sets)) (over (map state_of runs) sets) (over (map boxed_of runs) answers)
    rack_run =
        ap (planned f l sets starts b answers) (plan_fits (length sets) (length starts) (length answers) h)
        ∙ ap (λ (ss : List State). let rs = runs_of f l ss starts b in left (Ok (length sets)) (over (map state_of rs) sets) (over (map boxed_of rs) answers))
        (take_all (length sets) sets (omega arith))

    pub rack_sets : length (rack_of f l sets starts b answers).sets ≡ length sets
    rack_sets = ap (λ (k : Rack). length k.sets) rack_run ∙ over_length (map state_of runs) sets (omega (arith, length-map runs state_of, as_many))

    pub rack_answers : length (rack_of f l sets starts b answers).answers ≡ length answers
    rack_answers = ap (λ (k : Rack). length k.answers) rack_run ∙ over_length (map boxed_of runs) answers (omega (arith, length-map runs boxed_of, as_many, h.slots))

    -- a row of it at a place of a box, and past the boxes
    at_box : {B : Type 0} (g : Ran → B) (old : List B) (i : ℕ) (d : Ran) → i < length sets → get_or (over (map g runs) old) i (g d) ≡ g (get_or runs i d)
    at_box g old i d k = over_before (map g runs) old i (g d) (omega (arith, length-map runs g, as_many)) ∙ get_or-map g runs i d

    -- p stands past the end of the start places
    pub rack_box : (i : ℕ) (d : Ran) (p : ℕ) → i < length sets → box_at d (rack_of f l sets starts b answers) i ≡ run_of f l (get_or sets i (state_of d)) (get_or starts i p) b
    rack_box i d p k =
        ap (λ (x : Rack). box_at d x i) rack_run
        ∙ (ap₂ ran_by (at_box state_of sets i d k) (at_box boxed_of answers i d k)
        ∙ runs_at f l b i sets starts d (state_of d) p k (omega (arith, k, h.places)))

    pub rack_each : (P : State → ℕ → Ran → Type 0) → ((s : State) (p : ℕ) → P s p (run_of f l s p b))
        → (i : ℕ) (d : Ran) (p : ℕ) → i < length sets → P (get_or sets i (state_of d)) (get_or starts i p) (box_at d (rack_of f l sets starts b answers) i)
    rack_each P each i d p k = subst⁻¹ (P (get_or sets i (state_of d)) (get_or starts i p)) (rack_box i d p k) (each (get_or sets i (state_of d)) (get_or starts i p))

    pub rack_spare : (i : ℕ) (z : Boxed) → length sets ≤ i → get_or (rack_of f l sets starts b answers).answers i z ≡ get_or answers i z
    rack_spare i z k = ap (λ (x : Rack). get_or x.answers i z) rack_run ∙ over_past (map boxed_of runs) answers i z (omega (arith, length-map runs boxed_of, as_many))

-- ---- halted and continued

module _ (f : State → Step → Performed) (l : List Step) (d : Ran) (i : ℕ) where
  -- the next part is a rack too
  fits_again : (sets : List State) (starts : List ℕ) (answers : List Boxed) (b : ℕ) → Fitting (length sets) (length starts) (length answers)
      → let k = rack_of f l sets starts b answers in Fitting (length k.sets) (length (map next_of k.answers)) (length k.answers)
  fits_again sets starts answers b h =
      let k = rack_of f l sets starts b answers in
      let m = rack_sets f l sets starts b answers h in
      let n = rack_answers f l sets starts b answers h in
      record { few = omega (arith, m, h.few); places = omega (arith, m, n, length-map k.answers next_of, h.slots); slots = omega (arith, m, n, h.slots) }

  pub rack_parts : (sets : List State) (starts : List ℕ) (answers : List Boxed) (p b : ℕ) (bs : List ℕ) → Fitting (length sets) (length starts) (length answers) → i < length sets
      → box_in_parts f l d i sets starts answers b bs ≡ run_in_parts f l (get_or sets i (state_of d)) (get_or starts i p) b bs
  rack_parts sets starts answers p b [] h g = rack_box f l sets starts b answers h i d p g
  rack_parts sets starts answers p b (c ∷ bs) h g =
      let k = rack_of f l sets starts b answers in
      let box = rack_box f l sets starts b answers h i d p g in
      let more : Ran → Ran = λ r. after r.steps r.clocks (run_in_parts f l r.state r.next c bs) in
      ap (after (box_at d k i).steps (box_at d k i).clocks)
      (rack_parts k.sets (map next_of k.answers) k.answers d.next c bs (fits_again sets starts answers b h) (omega (arith, g, rack_sets f l sets starts b answers h))
      ∙ ap (λ (q : ℕ). run_in_parts f l (get_or k.sets i (state_of d)) q c bs) (get_or-map next_of k.answers i (boxed_of d)))
      ∙ ap more box
