-- Laws of a rack in rows of numbers. Assumes nothing.
--     sets_at, sets_many        the register set of a box, and how many there are
--     Filled                    a row of which the first boxes have what their runs leave, eight words to each: `filled_none` before the loop, `filled_next` a
--                               turn, `filled_rest` what a turn reads, `filled_all` behind the loop
--     After                     the rows of a rack after so many boxes: `after_none`, `after_next`, `after_all`
--     room_in                   a row has eight words for each box
--     rack_single               each box of a rack is what `listing_run` leaves of it, and tells
use Prim.Native.Nat.{ℕ, zero, suc, ◌+◌, ◌*◌, ◌/◌, ◌≤◌, ◌<◌, min}
use mathlib.Core.Path.{◌≡◌, refl, sym, ap, ap₂, subst, subst⁻¹, ◌∙◌}
use mathlib.Core.List.{List, [], ◌∷◌, ◌++◌, map, append_assoc}
use native.Mathlib.Omega.{arith}
use lib.ListN.{length, take, drop, get_or, set, length-append, length-drop, length-map, get_or-map}
use Rattle.std.specs.Prelude.{Ok, Err, IsOk}
use Rattle.std.specs.Result.{result_unwrap_or}
use Rattle.std.specs.List.{flat_map}
use Rattle.std.proofs.lemmas.Grind.{common_steps}
use lib.Seq.{take_all, length-take-le, take-append_seam, drop-append-add, drop-drop, take_at, paste}
use Rattle.alu.specs.ConditionCodes.{ccr_of}
use Rattle.step.specs.declared.registers.State.{State}
use Rattle.step.specs.declared.forms.Step.{Step}
use Rattle.step.specs.declared.runs.Ran.{Ran}
use Rattle.step.specs.Perform.{perform_of}
use Rattle.step.specs.declared.runs.End.{End}
use Rattle.step.specs.declared.runs.End.TheVariants.{Finished, Budget, Trapped, Refused}
use Rattle.step.specs.Run.{ends, run_of, end_numbers}
use Rattle.step.specs.Lent.{over}
use Rattle.step.specs.Rack.{Plan, boxes_of, plan_of, runs_of}
use Rattle.step.proofs.Rows.{over_put, over_before, over_past}
use Rattle.step.proofs.Boxes.{Within, plan_fits, plan_fitting, plan_within, first_many, first_at_lem}
use Rattle.step.proofs.Kept.{AsMany, step_kept, run_kept}
use Rattle.recipe_calls.specs.Words.{first_of}
use Rattle.recipe_calls.specs.Calls.{StateLeft, state_of, state_left, ran_told, ran_left, run_words, sets_of, rack_left, rack_told, rack_by, rack_words}
use Rattle.recipe_calls.specs.Boxes.{eight_at, eight_put, box_state, BoxPut}

-- ---- the register sets

pub sets_many : (d a flags : List ℕ) → length (sets_of d a flags) ≡ length flags
sets_many d a [] = refl
sets_many d a (f ∷ flags) = ap suc (sets_many (drop 8 d) (drop 8 a) flags)

next_eight : (i : ℕ) (row : List ℕ) → eight_at i (drop 8 row) ≡ eight_at (suc i) row
next_eight i row = let e : 8 + 8 * i ≡ 8 * suc i = omega arith in ap (take 8) (drop-drop (8 * i) 8 row ∙ ap (λ (k : ℕ). drop k row) e)

pub sets_at : (d a flags : List ℕ) (i : ℕ) (s : State) → i < length flags → get_or (sets_of d a flags) i s ≡ box_state i d a flags
sets_at d a [] i s h = absurd (omega arith)
sets_at d a (f ∷ flags) zero s h = refl
sets_at d a (f ∷ flags) (suc i) s h =
    sets_at (drop 8 d) (drop 8 a) flags i s (omega arith) ∙ rw (next_eight i d, next_eight i a)

-- ---- a row that is filled box by box

filled_more : (g : Ran → List ℕ) (rs : List Ran) (i : ℕ) (d : Ran) → i < length rs → flat_map g (take (i + 1) rs) ≡ flat_map g (take i rs) ++ g (get_or rs i d)
filled_more g rs i d h = grind (arith, common_steps)

pub record Filled (g : Ran → List ℕ) (rs : List Ran) (old row : List ℕ) (i : ℕ) : Type 0 where
  pub is : row ≡ over (flat_map g (take i rs)) old
  pub many : length (flat_map g (take i rs)) ≡ 8 * i

pub filled_none : (g : Ran → List ℕ) (rs : List Ran) (old : List ℕ) → Filled g rs old old 0
filled_none g rs old = record { is = refl; many = refl }

-- eight words written behind those that are
over_eight : (new old words : List ℕ) (k : ℕ) → length new ≡ k → length words ≡ 8 → paste (over new old) k words 8 ≡ over (new ++ words) old
over_eight new old words k e h =
    subst (λ (n : ℕ). paste (over new old) n words 8 ≡ over (new ++ words) old) e
    (rw (
      take-append_seam new (drop (length new) old),
      drop-append-add new (drop (length new) old) 8,
      drop-drop 8 (length new) old,
      take_all 8 words (omega (arith, h)),
      length-append new words,
      h,
      append_assoc,
    ))

module _ (g : Ran → List ℕ) (rs : List Ran) (old row : List ℕ) (i : ℕ) (f : Filled g rs old row i) where
  pub filled_rest : eight_at i row ≡ eight_at i old
  filled_rest = grind (arith, common_steps)

  pub filled_next :
      (d : Ran) (words row' : List ℕ) → i < length rs → words ≡ g (get_or rs i d) → length words ≡ 8 → row' ≡ eight_put i words row → Filled g rs old row' (i + 1)
  filled_next d words row' h e m put =
      let more = filled_more g rs i d h in
      let written = over_eight (flat_map g (take i rs)) old words (8 * i) f.many m in
      record { is = rw (put, f.is, written, e, more); many = grind (arith, common_steps) }

  pub filled_all : i ≡ length rs → row ≡ over (flat_map g rs) old
  filled_all e = grind (arith, common_steps)

-- ---- the rows of a rack, box by box

told_many : (e : End) (rest : List ℕ) → length (end_numbers e ++ rest) ≡ 3 + length rest
told_many Finished rest = omega arith
told_many Budget rest = omega arith
told_many (Trapped trap place line) rest = omega arith
told_many (Refused fault place line) rest = omega arith

-- what would stand past a row's end; it is nowhere read
abbrev none : Ran
none = ends Finished (state_of [] [] 0) 0

abbrev ccr_left : Ran → ℕ
ccr_left r = ccr_of r.state.flags

-- a rack that runs n boxes
module _ (l : List Step) (n : ℕ) (d₀ a₀ flags₀ starts : List ℕ) (b : ℕ) (answers₀ : List ℕ) where
  abbrev pub runs : List Ran
  runs = runs_of perform_of l (take n (sets_of d₀ a₀ flags₀)) starts b

  -- its rows after i boxes
  pub record After (d a flags answers : List ℕ) (i : ℕ) : Type 0 where
    pub of_d : Filled (λ r. r.state.d) runs d₀ d i
    pub of_a : Filled (λ r. r.state.a) runs a₀ a i
    pub of_flags : flags ≡ over (map ccr_left (take i runs)) flags₀
    pub of_answers : Filled ran_told runs answers₀ answers i

  pub after_none : After d₀ a₀ flags₀ answers₀ 0
  after_none = record { of_d = filled_none _ runs d₀; of_a = filled_none _ runs a₀; of_flags = refl; of_answers = filled_none ran_told runs answers₀ }

  module _ (sets : n ≤ length flags₀) (places : n ≤ length starts) where
    pub runs_many : length runs ≡ n
    runs_many = first_many perform_of l b n (sets_of d₀ a₀ flags₀) starts (omega (arith, sets, sets_many d₀ a₀ flags₀)) places

    run_at : (i : ℕ) → i < n → get_or runs i none ≡ run_of perform_of l (box_state i d₀ a₀ flags₀) (get_or starts i 0) b
    run_at i g =
        first_at_lem perform_of l b n (sets_of d₀ a₀ flags₀) starts (omega (arith, sets, sets_many d₀ a₀ flags₀)) places i none none.state 0 g
        ∙ ap (λ (s : State). run_of perform_of l s (get_or starts i 0) b) (sets_at d₀ a₀ flags₀ i none.state (omega (arith, g, sets)))

    module _ (d a flags answers : List ℕ) (i : ℕ) (g : i < n) (t : After d a flags answers i) where
      -- the box that comes next has its registers and flags still
      still : box_state i d a flags ≡ box_state i d₀ a₀ flags₀
      still =
          let front : length (map ccr_left (take i runs)) ≡ i = length-map (take i runs) ccr_left ∙ length-take-le i runs (omega (arith, g, runs_many)) in
          rw (
            filled_rest _ runs d₀ d i t.of_d,
            filled_rest _ runs a₀ a i t.of_a,
            ap (λ (row : List ℕ). get_or row i 0) t.of_flags ∙ over_past (map ccr_left (take i runs)) flags₀ i 0 (omega (arith, front)),
          )

      -- a box more
      pub after_next : (r : Ran) → r ≡ run_of perform_of l (box_state i d a flags) (get_or starts i 0) b → (d' a' flags' answers' : List ℕ) → BoxPut i r d a flags d' a' flags'
          → answers' ≡ eight_put i (ran_told r) answers → After d' a' flags' answers' (i + 1)
      after_next r e d' a' flags' answers' p told =
          let is : r ≡ get_or runs i none = e ∙ (ap (λ (s : State). run_of perform_of l s (get_or starts i 0) b) still ∙ sym (run_at i g)) in
          let inside : i < length runs = omega (arith, g, runs_many) in
          record {
            of_d = filled_next _ runs d₀ d i t.of_d none r.state.d d' inside (ap (λ (x : Ran). x.state.d) is) p.many_d p.is_d;
            of_a = filled_next _ runs a₀ a i t.of_a none r.state.a a' inside (ap (λ (x : Ran). x.state.a) is) p.many_a p.is_a;
            of_flags = p.is_flags ∙ (ap₂ (λ (row : List ℕ) (x : Ran). set row i (ccr_left x)) t.of_flags is ∙ over_put ccr_left flags₀ runs i none inside (omega (arith, g, sets)));
            of_answers = filled_next ran_told runs answers₀ answers i t.of_answers none (ran_told r) answers' inside (ap ran_told is) (told_many r.end _) told;
          }

-- ---- the whole rack, by its plan

pub boxes_are : (plan : Plan) → result_unwrap_or plan 0 ≡ boxes_of plan
boxes_are (Ok boxes) = refl
boxes_are (Err refusal) = refl

pub within_planned : (a b c : ℕ) (plan : Plan) → plan ≡ plan_of a b c → Within (boxes_of plan) a b c
within_planned a b c plan e = rw e (plan_within a b c)

pub after_all : (listing d₀ a₀ flags₀ starts : List ℕ) (budget : ℕ) (answers₀ d a flags answers : List ℕ) (i : ℕ) (plan : Plan) →
    boxes_of plan ≤ length flags₀ → boxes_of plan ≤ length starts → i ≡ boxes_of plan →
    After (first_of listing) (boxes_of plan) d₀ a₀ flags₀ starts budget answers₀ d a flags answers i →
    rack_left d a flags answers (rack_told plan) ≡ rack_by listing d₀ a₀ flags₀ starts budget answers₀ plan
after_all listing d₀ a₀ flags₀ starts budget answers₀ d a flags answers i plan sets places e t =
    let n = boxes_of plan in
    let rs = runs (first_of listing) n d₀ a₀ flags₀ starts budget answers₀ in
    let last : i ≡ length rs = e ∙ sym (runs_many (first_of listing) n d₀ a₀ flags₀ starts budget answers₀ sets places) in
    rw (
      filled_all _ rs d₀ d i t.of_d last,
      filled_all _ rs a₀ a i t.of_a last,
      t.of_flags ∙ ap (λ (xs : List Ran). over (map ccr_left xs) flags₀) (take_all i rs (omega (arith, last))),
      filled_all ran_told rs answers₀ answers i t.of_answers last,
    )

-- ---- how many boxes there is room for

pub record Room (n d a answers : ℕ) : Type 0 where
  pub in_d : 8 * n ≤ d
  pub in_a : 8 * n ≤ a
  pub in_answers : 8 * n ≤ answers

pub room_in : (n d a answers : ℕ) → n ≤ min (min d a) answers / 8 → Room n d a answers
room_in n d a answers h = record { in_d = omega arith; in_a = omega arith; in_answers = omega arith }

-- ---- box by box

-- the words of box i, where each run left eight
boxed_at : (g : Ran → List ℕ) (rs : List Ran) (i : ℕ) (rest : List ℕ) → ((j : ℕ) → j < length rs → length (g (get_or rs j none)) ≡ 8) → i < length rs
    → take 8 (drop (8 * i) (flat_map g rs ++ rest)) ≡ g (get_or rs i none)
boxed_at g [] i rest each h = absurd (omega arith)
boxed_at g (r ∷ rs) zero rest each h =
    ap (take 8) (append_assoc (g r) (flat_map g rs) rest) ∙ take_at (g r) (flat_map g rs ++ rest) 8 (each 0 (omega arith))
boxed_at g (r ∷ rs) (suc i) rest each h =
    let place : 8 * suc i ≡ length (g r) + 8 * i = omega (arith, each 0 (omega arith)) in
    ap₂ (λ (k : ℕ) (row : List ℕ). take 8 (drop k row)) place (append_assoc (g r) (flat_map g rs) rest)
    ∙ (ap (take 8) (drop-append-add (g r) (flat_map g rs ++ rest) (8 * i)) ∙ boxed_at g rs i rest (λ j k. each (suc j) (omega (arith, k))) (omega arith))

-- Each box of a rack that is not refused is what `listing_run` leaves of it, and tells
pub rack_single :
    (listing d a flags starts : List ℕ) (budget : ℕ) (answers : List ℕ) →
    IsOk (plan_of (length flags) (length starts) (min (min (length d) (length a)) (length answers) / 8)) → (i : ℕ) → i < length flags →
    let k = rack_words listing d a flags starts budget answers in
    state_left (eight_at i k.d) (eight_at i k.a) (get_or k.flags i 0) (eight_at i k.answers)
    ≡ run_words listing (eight_at i d) (eight_at i a) (get_or flags i 0) (get_or starts i 0) budget
rack_single listing d a flags starts budget answers fits i inside =
    let n = length flags in
    let slots = min (min (length d) (length a)) (length answers) / 8 in
    let h = plan_fitting n (length starts) slots fits in
    let room = room_in n (length d) (length a) (length answers) h.slots in
    let l = first_of listing in
    let rs = runs l n d a flags starts budget answers in
    let many = runs_many l n d a flags starts budget answers (omega arith) h.places in
    let ran : (j : ℕ) → j < n → get_or rs j none ≡ run_of perform_of l (box_state j d a flags) (get_or starts j 0) budget =
    λ j k. run_at l n d a flags starts budget answers (omega arith) h.places j k in
    let kept : (j : ℕ) → j < n → AsMany (box_state j d a flags) (get_or rs j none).state =
    λ j k. subst⁻¹ (λ (r : Ran). AsMany (box_state j d a flags) r.state) (ran j k) (run_kept perform_of l step_kept (box_state j d a flags) (get_or starts j 0) budget) in
    let eight : (row : List ℕ) (j : ℕ) → j < n → 8 * n ≤ length row → length (eight_at j row) ≡ 8 =
    λ row j k m. length-take-le 8 (drop (8 * j) row) (omega (arith, k, m, length-drop (8 * j) row)) in
    let each-d : (j : ℕ) → j < length rs → length (get_or rs j none).state.d ≡ 8 =
    λ j k. let g : j < n = omega (arith, k, many) in (kept j g).data_registers ∙ eight d j g room.in_d in
    let each-a : (j : ℕ) → j < length rs → length (get_or rs j none).state.a ≡ 8 =
    λ j k. let g : j < n = omega (arith, k, many) in (kept j g).address_registers ∙ eight a j g room.in_a in
    let here : i < length rs = omega (arith, inside, many) in
    let left : Plan → StateLeft = λ p.
    let k = rack_by listing d a flags starts budget answers p in state_left (eight_at i k.d) (eight_at i k.a) (get_or k.flags i 0) (eight_at i k.answers) in
    let words : left (Ok n) ≡ ran_left (get_or rs i none) =
    rw (
      boxed_at (λ r. r.state.d) rs i (drop (length (flat_map (λ r. r.state.d) rs)) d) each-d here,
      boxed_at (λ r. r.state.a) rs i (drop (length (flat_map (λ r. r.state.a) rs)) a) each-a here,
      over_before (map ccr_left rs) flags i 0 (omega (arith, here, length-map rs ccr_left)),
      get_or-map ccr_left rs i none,
      boxed_at ran_told rs i (drop (length (flat_map ran_told rs)) answers) (λ j k. told_many (get_or rs j none).end _) here,
    ) in
    ap left (plan_fits n (length starts) slots h) ∙ (words ∙ ap ran_left (ran i inside))
