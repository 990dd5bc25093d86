-- Laws of a row that is written from its front (`over` of specs/Lent): for every function that fills a lent row, step by step or at once.
--     over_length   it stays as long as it was
--     over_next     one slot more is written
--     over_before   what stands in a slot that is written
--     over_past     what stands in any other: what it was
--     over_put      the same of a row that is made of another, slot by slot
-- Assumes nothing.
use Rattle.std.proofs.Common.{◌≡◌, ℕ, zero, suc, ◌+◌, ◌-◌, ◌<◌, ◌≤◌, List, [], ◌∷◌, map, length, get_or, take, drop, set, refl, ap, ◌∙◌, append_assoc, arith, length-append, length-drop, length-take-le, get_or-drop, drop-cons, take-suc, get_or-append-add}
use lib.ListN.{length-map, get_or-append, get_or-map}
use lib.Seq.{set_at}
use Rattle.step.specs.Lent.{over}

module _ {A : Type 0} (new old : List A) where
  pub over_length : length new ≤ length old → length (over new old) ≡ length old
  over_length h = omega (arith, length-append new (drop (length new) old), length-drop (length new) old)

  pub over_next : (i : ℕ) (d : A) → i < length new → i < length old → set (over (take i new) old) i (get_or new i d) ≡ over (take (suc i) new) old
  over_next i d h k =
      rw (
        length-take-le i new (omega arith),
        length-take-le (suc i) new h,
        drop-cons old i d k,
        set_at (take i new) (get_or old i d) (drop (suc i) old) (get_or new i d) i (length-take-le i new (omega arith)),
        take-suc new i d h,
        append_assoc,
      )

  pub over_before : (i : ℕ) (d : A) → i < length new → get_or (over new old) i d ≡ get_or new i d
  over_before i d h = get_or-append new (drop (length new) old) d i h

  pub over_past : (i : ℕ) (d : A) → length new ≤ i → get_or (over new old) i d ≡ get_or old i d
  over_past i d h =
      let at : i ≡ length new + (i - length new) = omega arith in
      let back : length new + (i - length new) ≡ i = omega arith in
      ap (λ (j : ℕ). get_or (over new old) j d) at
      ∙ (get_or-append-add new (drop (length new) old) (i - length new) d
      ∙ (get_or-drop (length new) old (i - length new) d ∙ ap (λ (j : ℕ). get_or old j d) back))

take_map : {A B : Type 0} (f : A → B) (n : ℕ) (l : List A) → take n (map f l) ≡ map f (take n l)
take_map f zero l = refl
take_map f (suc n) [] = refl
take_map f (suc n) (x ∷ l) = ap (λ r. f x ∷ r) (take_map f n l)

pub over_put : {A B : Type 0} (f : A → B) (old : List B) (l : List A) (i : ℕ) (d : A) → i < length l → i < length old
    → set (over (map f (take i l)) old) i (f (get_or l i d)) ≡ over (map f (take (i + 1) l)) old
over_put f old l i d h k =
    let next : i + 1 ≡ suc i = omega arith in
    rw (next, ← take_map f i l, ← take_map f (suc i) l, ← get_or-map f l i d) (over_next (map f l) old i (f d) (omega (arith, length-map l f)) k)
