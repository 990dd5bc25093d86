-- What a digit that is asked for by `ok_or` gives a line, the exit of a `?` that hands an error on or changes it first, and the digit that is the only field. Assumes nothing.
use Prim.Native.Nat.{ℕ, ◌≤◌}
use mathlib.Core.Bool.{Bool, true, false, cond, false≢true}
use mathlib.Core.List.{List, [], ◌∷◌, ◌++◌}
use mathlib.Core.Path.{◌≡◌, refl, sym, ap, ◌∙◌, subst}
use lib.Dec.{eqb}
use lib.ListN.{length, take, drop, take-append-drop}
use lib.Pointwise.{pointwise}
use lib.Seq.{take-append_seam}
use native.Mathlib.Omega.{arith}
use borrow.Author.Tests.{eqb-true, ne_eqb}
use Rattle.std.specs.Prelude.{Option, Some, None, Result, Ok, Err, IsErrAnd, MatchResult}
use Rattle.std.specs.Option.{ok_or}
use Rattle.text.specs.Text.{ascii, same_bytes, before, after, parts, digit_of}
use Rattle.text.proofs.Texts.{same_true, same_refl, same_pointwise}
use Rattle.recipes.specs.Reader.{only_digit, width_digit, width_line}

-- the error of a `?` is the one that came
pub handed_on : {T E : Type 0} (r : Result T E) (e : E) → IsErrAnd r (λ x. x ≡ e) → r ≡ Err e
handed_on (Ok x) e h = absurd h
handed_on (Err x) e h = ap Err h

-- and that of one behind a `map_err`: what its closure made of the error that came
pub mapped_err : {T E F : Type 0} (r : Result T E) (m : Result T F) (made : E → F → Type 0) (x : F) → MatchResult r (λ t. m ≡ Ok t) (λ e. IsErrAnd m (made e)) → m ≡ Err x
    → (e : E) × ((r ≡ Err e) × made e x)
mapped_err (Ok t) m made x h was = cc
mapped_err (Err e) (Ok t) made x h was = absurd h
mapped_err {T} {E} {F} (Err e) (Err y) made x h was = (e, (refl, subst (λ (m : Result T F). IsErrAnd m (made e)) was h))

pub mapped_ok : {T E F : Type 0} (r : Result T E) (m : Result T F) (made : E → F → Type 0) (t : T) → MatchResult r (λ t. m ≡ Ok t) (λ e. IsErrAnd m (made e)) → m ≡ Ok t → r ≡ Ok t
mapped_ok (Ok u) m made t h was = cc
mapped_ok (Err e) (Ok u) made t h was = absurd h
mapped_ok (Err e) (Err y) made t h was = cc

-- a digit that is there, and one that is not
pub some_digit : {T E : Type 0} (d : Option T) (e : E) (a : T) → ok_or d e ≡ Ok a → d ≡ Some a
some_digit None e a h = cc
some_digit (Some d) e a h = cc

pub no_digit : {T E : Type 0} (d : Option T) (e x : E) → ok_or d e ≡ Err x → (d ≡ None) × (x ≡ e)
no_digit None e x h = (refl, cc)
no_digit (Some d) e x h = cc

no_one : (f : List ℕ) → 2 ≤ length f → digit_of f ≡ None
unfolding digit_of
no_one f h = rw (ne_eqb (length f) 1 (λ e. omega arith))

-- a field that is one digit has no tab in it
pub one_digit : (f : List ℕ) → only_digit (parts 9 f) ≡ digit_of f
unfolding before after digit_of
one_digit [] = refl
one_digit (x ∷ []) = go (eqb x 9) (eqb-true x 9)
  where
    go : (t : Bool) → (t ≡ true → x ≡ 9) → only_digit (cond t [] (x ∷ []) ∷ cond t ([] ∷ []) []) ≡ digit_of (x ∷ [])
    go true k = rw (k refl)
    go false k = refl
one_digit (x ∷ y ∷ f) = go (eqb x 9) (eqb y 9) (after 9 f) ∙ sym (no_one (x ∷ y ∷ f) (omega arith))
  where
    go : (t u : Bool) (more : List (List ℕ)) → let rest = cond u (before 9 f ∷ more) more in
        only_digit (cond t [] (x ∷ cond u [] (y ∷ before 9 f)) ∷ cond t (cond u [] (y ∷ before 9 f) ∷ rest) rest) ≡ None
    go true true more = refl
    go true false more = refl
    go false true more = refl
    go false false [] = no_one (x ∷ y ∷ before 9 f) (omega arith)
    go false false (g ∷ more) = refl

-- the width of a line behind the word and its tab
pub width_behind : (row f : List ℕ) → row ≡ ascii "width" ++ (9 ∷ f) → width_line row ≡ width_digit (digit_of f)
unfolding width_line before after same_bytes
width_behind row f e = rw e (ap width_digit (one_digit f))

-- a text of two parts has the byte between them
parted : (xs : List ℕ) (g : List ℕ) (l : List (List ℕ)) → after 9 xs ≡ g ∷ l → (f : List ℕ) × (xs ≡ before 9 xs ++ (9 ∷ f))
unfolding before after
parted [] g l e = cc
parted (x ∷ xs) g l e = go (eqb x 9) (eqb-true x 9) e (parted xs g l)
  where
    go : (t : Bool) → (t ≡ true → x ≡ 9) → cond t (before 9 xs ∷ after 9 xs) (after 9 xs) ≡ g ∷ l
        → (after 9 xs ≡ g ∷ l → (f : List ℕ) × (xs ≡ before 9 xs ++ (9 ∷ f))) → (f : List ℕ) × (x ∷ xs ≡ cond t [] (x ∷ before 9 xs) ++ (9 ∷ f))
    go true k e more = (xs, ap (λ (z : ℕ). z ∷ xs) (k refl))
    go false k e more = let h = more e in (h.0, ap (λ (r : List ℕ). x ∷ r) h.1)

-- and of a line that has no such head
pub width_elsewhere : (row : List ℕ) → ((f : List ℕ) → row ≡ ascii "width" ++ (9 ∷ f) → ⊥) → width_line row ≡ None
unfolding width_line
width_elsewhere row lacks = go (same_bytes (before 9 row) (ascii "width")) (same_true _ _) (after 9 row) (parted row)
  where
    go : (t : Bool) → (t ≡ true → before 9 row ≡ ascii "width") → (more : List (List ℕ)) → ((g : List ℕ) (l : List (List ℕ)) → more ≡ g ∷ l → (f : List ℕ) × (row ≡ before 9 row ++ (9 ∷ f)))
        → cond t (width_digit (only_digit more)) None ≡ None
    go false same more p = refl
    go true same [] p = refl
    go true same (g ∷ l) p = let h = p g l refl in absurd (lacks h.0 (h.1 ∙ ap (λ w. w ++ (9 ∷ h.0)) (same refl)))

-- as std's `strip_prefix` tells the two
abbrev head : List ℕ
head = ascii "width" ++ (9 ∷ [])

pub width_stripped : (row f : List ℕ) → pointwise eqb (take (length head) row) head ≡ true → f ≡ drop (length head) row → width_line row ≡ width_digit (digit_of f)
width_stripped row f same behind =
    width_behind row f (sym (take-append-drop (length head) row) ∙ ap (λ l. l ++ drop (length head) row) (same_true _ _ (sym (same_pointwise _ head) ∙ same)) ∙ ap (λ l. head ++ l) (sym behind))

pub width_kept : (row : List ℕ) → pointwise eqb (take (length head) row) head ≡ false → width_line row ≡ None
width_kept row other =
    width_elsewhere row (λ f e. false≢true (sym other ∙ (same_pointwise _ head ∙ (ap (λ l. same_bytes l head) (ap (take (length head)) e ∙ take-append_seam head f) ∙ same_refl head))))
