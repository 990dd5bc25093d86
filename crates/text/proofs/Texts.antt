-- Laws of texts: when two are the same, and how a byte parts one. Assumes nothing.
--     same_true, same_refl, same_by    two are the same exactly where they are equal
--     same_pointwise                   std's `==` on slices says the same
--     First                            an index tells how a byte parts a text: the part before it, and the rest as `&s[i + 1..]` gives it
--     first_tells, first_by            the length of the part before does
--     first_found                      it is what `position` finds, or the length
use Rattle.std.proofs.Common.{Some, None, not, ltb, ◌≡◌, ℕ, suc, ◌+◌, ◌-◌, ◌<◌, ◌≤◌, Bool, true, false, cond, ◌&&◌, eqb, List, [], ◌∷◌, length, take, drop, sym, refl, ap, ◌∙◌, ap₂, le_refl, le_of_suc-le-suc, not-suc-le-zero, add-one, arith, length-drop, length-take-le, take_all, eq-eqb, eqb-true, nat_eq}
use mathlib.Core.Bool.{false≢true}
use lib.Pointwise.{pointwise}
use Rattle.std.proofs.lemmas.Bool.{ltb-false}
use Rattle.std.specs.List.{position, position_or_len}
use Rattle.std.specs.Option.{unwrap_or}
use Rattle.text.specs.Text.{same_bytes, before, after, parts}

-- ---- two texts are the same
both_true : (s t : Bool) → s && t ≡ true → (s ≡ true) × (t ≡ true)
both_true true true e = (refl, refl)
both_true true false e = (refl, e)
both_true false true e = (e, refl)
both_true false false e = (e, e)

pub same_true : (xs ys : List ℕ) → same_bytes xs ys ≡ true → xs ≡ ys
unfolding same_bytes
same_true [] [] e = refl
same_true [] (y ∷ ys) e = absurd (false≢true e)
same_true (x ∷ xs) [] e = absurd (false≢true e)
same_true (x ∷ xs) (y ∷ ys) e =
    let h = both_true (eqb x y) (same_bytes xs ys) e in
    ap₂ (λ (a : ℕ) (l : List ℕ). a ∷ l) (eqb-true x y h.0) (same_true xs ys h.1)

pub same_refl : (xs : List ℕ) → same_bytes xs xs ≡ true
unfolding same_bytes
same_refl [] = refl
same_refl (x ∷ xs) = rw (eq-eqb x x refl) (same_refl xs)

-- an answer that is true exactly where the two are equal
pub same_by : (r : Bool) (xs ys : List ℕ) → (r ≡ true → xs ≡ ys) → (xs ≡ ys → r ≡ true) → r ≡ same_bytes xs ys
same_by true xs ys f g = rw (← f refl) (sym (same_refl xs))
same_by false xs ys f g = go (same_bytes xs ys) (same_true xs ys)
  where
    go : (t : Bool) → (t ≡ true → xs ≡ ys) → false ≡ t
    go true k = g (k refl)
    go false k = refl

-- `==` of std compares them so
pub same_pointwise : (xs ys : List ℕ) → pointwise nat_eq xs ys ≡ same_bytes xs ys
unfolding same_bytes
same_pointwise [] [] = refl
same_pointwise [] (y ∷ ys) = refl
same_pointwise (x ∷ xs) [] = refl
same_pointwise (x ∷ xs) (y ∷ ys) = ap (λ (t : Bool). eqb x y && t) (same_pointwise xs ys)

-- ---- the search for a byte

-- the bytes of xs from a on, as `&xs[a..]` has them
abbrev pub from : ℕ → List ℕ → List ℕ
from a xs = take (length xs - a) (drop a xs)

-- i is where b stands first in xs, or the length of xs where it doesn't; so it tells the parts
pub record First (b : ℕ) (xs : List ℕ) (i : ℕ) : Type 0 where
  pub within : i ≤ length xs
  pub counted : i ≡ length (take i xs)
  pub front : before b xs ≡ take i xs
  pub some : i < length xs → after b xs ≡ parts b (from (i + 1) xs)
  pub none : length xs ≤ i → after b xs ≡ []
  pub whole : length xs ≤ i → before b xs ≡ xs

pub from_is : (xs : List ℕ) (a : ℕ) → from a xs ≡ drop a xs
from_is xs a = take_all (length xs - a) (drop a xs) (simp length-drop (le_refl _))

-- ---- the parts of a text, at that index

-- where b stands first, or the length
abbrev index_of : (b : ℕ) → List ℕ → ℕ
index_of b xs = length (before b xs)

front_at : (b : ℕ) (xs : List ℕ) → before b xs ≡ take (index_of b xs) xs
unfolding before
front_at b [] = refl
front_at b (x ∷ xs) = go (eqb x b) (front_at b xs)
  where
    go : (t : Bool) → before b xs ≡ take (index_of b xs) xs → cond t [] (x ∷ before b xs) ≡ take (length (cond t [] (x ∷ before b xs))) (x ∷ xs)
    go true e = refl
    go false e = ap (λ (l : List ℕ). x ∷ l) e

some_at : (b : ℕ) (xs : List ℕ) → index_of b xs < length xs → after b xs ≡ parts b (drop (suc (index_of b xs)) xs)
unfolding before after
some_at b [] h = absurd (not-suc-le-zero h)
some_at b (x ∷ xs) h = go (eqb x b) h (some_at b xs)
  where
    go : (t : Bool) → length (cond t [] (x ∷ before b xs)) < suc (length xs) → (index_of b xs < length xs → after b xs ≡ parts b (drop (suc (index_of b xs)) xs)) → cond t (parts b xs) (after b xs) ≡ parts b (drop (suc (length (cond t [] (x ∷ before b xs)))) (x ∷ xs))
    go true h more = refl
    go false h more = more (le_of_suc-le-suc h)

none_at : (b : ℕ) (xs : List ℕ) → length xs ≤ index_of b xs → after b xs ≡ []
unfolding before after
none_at b [] h = refl
none_at b (x ∷ xs) h = go (eqb x b) h (none_at b xs)
  where
    go : (t : Bool) → suc (length xs) ≤ length (cond t [] (x ∷ before b xs)) → (length xs ≤ index_of b xs → after b xs ≡ []) → cond t (parts b xs) (after b xs) ≡ []
    go true h more = absurd (not-suc-le-zero h)
    go false h more = more (le_of_suc-le-suc h)

first_at_lem : (b : ℕ) (xs : List ℕ) → index_of b xs ≤ length xs → First b xs (index_of b xs)
first_at_lem b xs h =
    record {
      within = h;
      counted = sym (length-take-le (index_of b xs) xs h);
      front = front_at b xs;
      some = λ l. rw (from_is, add-one) (some_at b xs l);
      none = none_at b xs;
      whole = λ l. front_at b xs ∙ take_all (index_of b xs) xs l;
    }

within_at : (b : ℕ) (xs : List ℕ) → index_of b xs ≤ length xs
unfolding before
within_at b [] = le_refl 0
within_at b (x ∷ xs) = go (eqb x b) (within_at b xs)
  where
    go : (t : Bool) → index_of b xs ≤ length xs → length (cond t [] (x ∷ before b xs)) ≤ suc (length xs)
    go true h = omega arith
    go false h = omega arith

pub first_tells : (b : ℕ) (xs : List ℕ) → First b xs (length (before b xs))
first_tells b xs = first_at_lem b xs (within_at b xs)

pub first_by : {b i : ℕ} {xs : List ℕ} → i ≡ length (before b xs) → First b xs i
first_by {b} {i} {xs} e = rw e (first_tells b xs)

-- ---- a search from the front

-- it is the first place that passes std's `position`
index_is : (b : ℕ) (xs : List ℕ) → position_or_len (λ x. eqb x b) xs ≡ length (before b xs)
unfolding before
index_is b [] = refl
index_is b (x ∷ xs) = go (eqb x b) (index_is b xs)
  where
    go : (t : Bool) → position_or_len (λ y. eqb y b) xs ≡ length (before b xs) → cond (not t) (1 + position_or_len (λ y. eqb y b) xs) 0 ≡ length (cond t [] (x ∷ before b xs))
    go true e = refl
    go false e = omega arith

pub first_found : (b : ℕ) (xs : List ℕ) → unwrap_or (position (λ x. eqb x b) xs) (length xs) ≡ length (before b xs)
first_found b xs = rw (index_is b xs) (go (ltb (length (before b xs)) (length xs)) refl)
  where
    go : (t : Bool) → ltb (length (before b xs)) (length xs) ≡ t → unwrap_or (cond t (Some (length (before b xs))) None) (length xs) ≡ length (before b xs)
    go true e = refl
    go false e = let h = within_at b xs in let past = ltb-false _ _ e in omega arith
