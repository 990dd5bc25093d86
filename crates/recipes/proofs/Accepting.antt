-- Laws of the tests of lines and recipes. Assumes nothing.
--     passes_names    a line that passes 6 and 7 names numbers, and copies none onto itself; names_pass: and one that does so passes
--     width_all       what is so of 1, 2 and 4 is so of every width; width_is: a width is at least 1 and at most 4
--     Good            a recipe that passes all tests
--     tests_agree     two answers that go through the same tests agree, if they agree where a test refuses, and where a recipe is good
use Prim.Native.Nat.{ℕ, suc, ◌/◌, ◌≤◌, ◌<◌}
use mathlib.Core.Bool.{Bool, true, false, cond, ◌||◌, ◌&&◌, false≢true}
use mathlib.Core.List.{List, [], ◌∷◌}
use mathlib.Core.Path.{◌≡◌, refl, sym, ap, ◌∙◌, subst⁻¹}
use native.Mathlib.Omega.{arith}
use borrow.Author.Tests.{leb-true, leb-false, lt-leb, eqb-true, eqb-false, ne_eqb}
use lib.Dec.{eqb, leb}
use Rattle.std.specs.Prelude.{Result, Ok, Err, IsOk}
use Rattle.recipes.specs.declared.types.Verb.{Verb}
use Rattle.recipes.specs.declared.types.Verb.TheVariants.{Clear, Copy, Add, Sub, Neg, Not, Halve, Down, Up}
use Rattle.recipes.specs.declared.types.Line.{Line}
use Rattle.recipes.specs.declared.types.Recipe.{Recipe}
use Rattle.recipes.specs.declared.types.Refused.{Refused}
use Rattle.recipes.specs.declared.types.Refusal.{Refusal}
use Rattle.recipes.specs.declared.types.Refusal.TheVariants.{NoSuchNumber, OntoItself, TooManyLines, WidthLine}
use Rattle.recipes.specs.Recipe.{lines_max, at_line, is_copy, target, is_width, recipe_lines, line_refusal, Names, Accepted}
use Rattle.recipes.specs.Listing.{or_refused, lines_pass, tested}

-- a choice between the same
pub cond_same : {A : Type 0} (t : Bool) (x : A) → cond t x x ≡ x
cond_same true x = refl
cond_same false x = refl

-- ---- lines

-- the tests of 6 and 7, by what each finds
abbrev pub named_by : (absent onto : Bool) → Result (Unit {0}) Refusal
named_by absent onto = cond absent (Err NoSuchNumber) (cond onto (Err OntoItself) (Ok tt))

pub passes_names : (n : ℕ) (l : Line) → IsOk (line_refusal n l) → Names n l
unfolding line_refusal
passes_names n l e = go (leb n l.a) refl (leb n (target l)) refl (is_copy l.verb) refl (eqb l.a (target l)) refl e
  where
    go : (t : Bool) → leb n l.a ≡ t → (u : Bool) → leb n (target l) ≡ u → (c : Bool) → is_copy l.verb ≡ c → (s : Bool) → eqb l.a (target l) ≡ s
        → IsOk (named_by (t || u) (c && s)) → Names n l
    go true h u i c d s j e = absurd (false≢true e)
    go false h true i c d s j e = absurd (false≢true e)
    go false h false i true d true j e = absurd (false≢true e)
    go false h false i true d false j e = record { source = leb-false n l.a h; goal = leb-false n (target l) i; apart = λ is. eqb-false l.a (target l) j }
    go false h false i false d s j e =
        record { source = leb-false n l.a h; goal = leb-false n (target l) i; apart = λ is same. false≢true (sym d ∙ ap is_copy is) }

is_copy_lem : (v : Verb) → is_copy v ≡ true → v ≡ Copy
is_copy_lem Clear e = absurd (false≢true e)
is_copy_lem Copy e = refl
is_copy_lem Add e = absurd (false≢true e)
is_copy_lem Sub e = absurd (false≢true e)
is_copy_lem Neg e = absurd (false≢true e)
is_copy_lem Not e = absurd (false≢true e)
is_copy_lem Halve e = absurd (false≢true e)
is_copy_lem Down e = absurd (false≢true e)
is_copy_lem Up e = absurd (false≢true e)

-- a line that names numbers passes
pub names_pass : (n : ℕ) (l : Line) → Names n l → line_refusal n l ≡ Ok tt
unfolding line_refusal
names_pass n l h = rw (lt-leb n l.a h.source, lt-leb n (target l) h.goal) (go (is_copy l.verb) refl)
  where
    go : (c : Bool) → is_copy l.verb ≡ c → named_by false (c && eqb l.a (target l)) ≡ Ok tt
    go true d = rw (ne_eqb l.a (target l) (h.apart (is_copy_lem l.verb d)))
    go false d = refl

-- ---- recipes

pub width_all : (P : ℕ → Type 0) → P 1 → P 2 → P 4 → (w : ℕ) → is_width w ≡ true → P w
width_all P one two four w e = go (eqb w 1) refl (eqb w 2) refl (eqb w 4) refl e
  where
    at : (k : ℕ) → P k → eqb w k ≡ true → P w
    at k h is = subst⁻¹ P (eqb-true w k is) h

    go : (s : Bool) → eqb w 1 ≡ s → (t : Bool) → eqb w 2 ≡ t → (u : Bool) → eqb w 4 ≡ u → (s || t) || u ≡ true → P w
    go true h t i u j e = at 1 one h
    go false h true i u j e = at 2 two i
    go false h false i true j e = at 4 four j
    go false h false i false j e = absurd (false≢true e)

pub width_is : (w : ℕ) → is_width w ≡ true → (0 < w) × (w ≤ 4)
width_is = width_all (λ w. (0 < w) × (w ≤ 4)) (omega arith, omega arith) (omega arith, omega arith) (omega arith, omega arith)

-- a recipe that passes the tests
pub record Good (r : Recipe) : Type 0 where
  pub width : is_width r.width ≡ true
  pub few : r.count ≤ lines_max
  pub lines : Accepted r.width (recipe_lines r)

module _ {R S : Type 0} (P : R → S → Type 0) (refuse : Refused → R) (reject : Refused → S)
    (alike : (k : Refused) → P (refuse k) (reject k))
  where
    lines_agree : (w line : ℕ) (ls : List Line) (go : R) (gone : S) → (Accepted w ls → P go gone) → P (lines_pass refuse (8 / w) line ls go) (lines_pass reject (8 / w) line ls gone)
    unfolding lines_pass
    lines_agree w line [] go gone h = h tt
    lines_agree w line (l ∷ ls) go gone h =
        by (line_refusal (8 / w) l) (λ e. lines_agree w (suc line) ls go gone (λ more. h (passes_names (8 / w) l e, more)))
      where
        by : (t : Result (Unit {0}) Refusal) → (IsOk t → P (lines_pass refuse (8 / w) (suc line) ls go) (lines_pass reject (8 / w) (suc line) ls gone))
            → P (or_refused refuse t line (lines_pass refuse (8 / w) (suc line) ls go)) (or_refused reject t line (lines_pass reject (8 / w) (suc line) ls gone))
        by (Ok passed) more = more refl
        by (Err k) more = alike (at_line k line)

    pub tests_agree : (r : Recipe) (go : R) (gone : S) → (Good r → P go gone) → P (tested refuse r go) (tested reject r gone)
    tests_agree r go gone h = width (is_width r.width) refl
      where
        few : (t : Bool) → leb r.count lines_max ≡ t → is_width r.width ≡ true
            → P (cond t (lines_pass refuse (8 / r.width) 2 (recipe_lines r) go) (refuse (at_line TooManyLines 0))) (cond t (lines_pass reject (8 / r.width) 2 (recipe_lines r) gone) (reject (at_line TooManyLines 0)))
        few true e w = lines_agree r.width 2 (recipe_lines r) go gone (λ a. h (record { width = w; few = leb-true r.count lines_max e; lines = a }))
        few false e w = alike (at_line TooManyLines 0)

        width : (t : Bool) → is_width r.width ≡ t
            → P (cond t (cond (leb r.count lines_max) (lines_pass refuse (8 / r.width) 2 (recipe_lines r) go) (refuse (at_line TooManyLines 0))) (refuse (at_line WidthLine 1)))
            (cond t (cond (leb r.count lines_max) (lines_pass reject (8 / r.width) 2 (recipe_lines r) gone) (reject (at_line TooManyLines 0))) (reject (at_line WidthLine 1)))
        width true e = few (leb r.count lines_max) refl e
        width false e = alike (at_line WidthLine 1)
