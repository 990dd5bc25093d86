-- The reader and the translator agree: a recipe that was read is translated, wherever there is room. Assumes nothing.
--     read_sound        an accepted text's recipe has a width, at most `lines_max` lines, and lines that name numbers
--     read_translates   so its translation is its listing
use Prim.Native.Nat.{ℕ, suc, ◌+◌, ◌-◌, ◌/◌, ◌≤◌, ◌<◌}
use mathlib.Core.Bool.{Bool, true, false, cond, false≢true}
use mathlib.Core.List.{List, [], ◌∷◌, ◌++◌}
use mathlib.Core.Path.{◌≡◌, refl, sym, ◌∙◌, subst}
use native.Mathlib.Decide.{dec_le}
use native.Mathlib.Omega.{arith}
use borrow.Author.Tests.{le-leb, leb-true, eqb-false}
use lib.Dec.{eqb, leb}
use lib.ListN.{length, length-append, replicate}
use lib.Seq.{take-append_seam}
use Rattle.std.specs.Prelude.{Option, Some, None, Result, Ok, Err, IsOk}
use Rattle.step.specs.declared.forms.Step.{Step}
use Rattle.recipes.specs.declared.types.Line.{Line}
use Rattle.recipes.specs.declared.types.Recipe.{Recipe}
use Rattle.recipes.specs.declared.types.Refusal.{Refusal}
use Rattle.recipes.specs.declared.types.Refusal.TheVariants.{TooManyLines, NoSpace, NoNewline}
use Rattle.recipes.specs.declared.types.Refused.{Refused}
use Rattle.recipes.specs.declared.reader.Slip.{Slip}
use Rattle.text.specs.Text.{ascii, same_bytes, before, after}
use Rattle.recipes.specs.Recipe.{lines_max, at_line, is_width, recipe_lines, unused, line_refusal, Names, Accepted}
use Rattle.recipes.specs.Reader.{refused_at, verb_of, past, only_digit, fields_of, if_passes, line_checked, then_checked, line_of, or_slip, lines_of, width_digit, width_line, with_width, from_first, read_of}
use Rattle.step.specs.Lent.{over}
use Rattle.recipes.specs.Listing.{lines_pass, tested, numbered_of, steps_of, Translated, translated, translate_of}
use Rattle.recipes.proofs.Accepting.{Good, passes_names, names_pass, tests_agree}

-- ---- a line that is read names numbers

checked_names : (n : ℕ) (l m : Line) → line_checked n l ≡ Ok m → Names n m
checked_names n l m e = go (line_refusal n l) (passes_names n l) e
  where
    go : (t : Result (Unit {0}) Refusal) → (IsOk t → Names n l) → if_passes l t ≡ Ok m → Names n m
    go (Ok passed) p e = let same : l ≡ m = cc in subst (Names n) same (p refl)
    go (Err k) p e = cc

then_names : (n : ℕ) (c : Result Line Slip) (m : Line) → then_checked n c ≡ Ok m → Names n m
then_names n (Err s) m e = cc
then_names n (Ok l) m e = checked_names n l m e

line_names : (n : ℕ) (row : List ℕ) (m : Line) → line_of n row ≡ Ok m → Names n m
unfolding line_of
line_names n row m e = then_names n (fields_of (verb_of (before 9 row)) (past 0 (before 9 row)) (after 9 row)) m e

-- ---- a reading

abbrev Sound : Result Recipe Refused → Type 0
Sound (Ok r) = Good r
Sound (Err k) = Unit {0}

snoc_accepted : (w : ℕ) (ls : List Line) (l : Line) → Accepted w ls → Names (8 / w) l → Accepted w (ls ++ (l ∷ []))
snoc_accepted w [] l a h = (h, tt)
snoc_accepted w (m ∷ ls) l a h = (a.0, snoc_accepted w ls l a.1 h)

lines_sound : (w : ℕ) (ls : List Line) (row : List ℕ) (more : List (List ℕ)) → is_width w ≡ true → length ls ≤ lines_max → Accepted w ls → Sound (lines_of w ls row more)
unfolding lines_of
lines_sound w ls [] [] i h a =
    record { width = i; few = h; lines = subst (Accepted w) (sym (take-append_seam ls (replicate (lines_max - length ls) unused))) a }
lines_sound w ls (x ∷ xs) [] i h a = go (eqb (length ls) lines_max)
  where
    go : (t : Bool) → Sound (cond t (refused_at TooManyLines (length ls + 2) 0) (refused_at NoNewline (length ls + 2) (past 0 (x ∷ xs))))
    go true = tt
    go false = tt
lines_sound w ls row (next ∷ more) i h a =
    full (eqb (length ls) lines_max) refl (λ l k n. lines_sound w (ls ++ (l ∷ [])) next more i k (snoc_accepted w ls l a n))
  where
    by : (c : Result Line Slip) → line_of (8 / w) row ≡ c → length ls < lines_max
        → ((l : Line) → length (ls ++ (l ∷ [])) ≤ lines_max → Names (8 / w) l → Sound (lines_of w (ls ++ (l ∷ [])) next more))
        → Sound (or_slip c (length ls + 2) (λ l. lines_of w (ls ++ (l ∷ [])) next more))
    by (Err k) e lt go = tt
    by (Ok l) e lt go = go l (rw length-append (omega arith)) (line_names (8 / w) row l e)

    full : (t : Bool) → eqb (length ls) lines_max ≡ t → ((l : Line) → length (ls ++ (l ∷ [])) ≤ lines_max → Names (8 / w) l → Sound (lines_of w (ls ++ (l ∷ [])) next more))
        → Sound (cond t (refused_at TooManyLines (length ls + 2) 0) (or_slip (line_of (8 / w) row) (length ls + 2) (λ l. lines_of w (ls ++ (l ∷ [])) next more)))
    full true e go = tt
    full false e go =
        let ne = eqb-false (length ls) lines_max e in
        by (line_of (8 / w) row) refl (strictly (length ls) lines_max h ne) go
      where
        strictly : (m n : ℕ) → m ≤ n → (m ≡ n → ⊥) → m < n
        strictly m n l ne = choose (dec_le n m)
          where
            choose : Dec (n ≤ m) → m < n
            choose (yes k) = absurd (ne (omega arith))
            choose (no k) = omega arith

-- the width line
abbrev Wide : Option ℕ → Type 0
Wide None = Unit {0}
Wide (Some w) = is_width w ≡ true

line_wide : (row : List ℕ) → Wide (width_line row)
unfolding width_line
line_wide row = go (same_bytes (before 9 row) (ascii "width")) (only_digit (after 9 row))
  where
    by : (d : ℕ) (t : Bool) → is_width d ≡ t → Wide (cond t (Some d) None)
    by d true e = e
    by d false e = tt

    go : (t : Bool) (d : Option ℕ) → Wide (cond t (width_digit d) None)
    go true None = tt
    go true (Some d) = by d (is_width d) refl
    go false d = tt

pub line_width : (row : List ℕ) (w : ℕ) → width_line row ≡ Some w → is_width w ≡ true
line_width row w e = subst Wide e (line_wide row)

first_sound : (row : List ℕ) (more : List (List ℕ)) → Sound (from_first row more)
first_sound row [] = tt
first_sound row (next ∷ more) = go (width_line row) (line_wide row)
  where
    go : (w : Option ℕ) → Wide w → Sound (with_width w next more)
    go None i = tt
    go (Some w) i = lines_sound w [] next more i (omega arith) tt

read_all : (text : List ℕ) → Sound (read_of text)
unfolding read_of
read_all text = first_sound (before 10 text) (after 10 text)

pub read_sound : (text : List ℕ) (r : Recipe) → read_of text ≡ Ok r → Good r
read_sound text r e = subst Sound e (read_all text)

-- ---- and its translation

lines_pass_lem : {R : Type 0} (refuse : Refused → R) (w line : ℕ) (ls : List Line) (go : R) → Accepted w ls → lines_pass refuse (8 / w) line ls go ≡ go
unfolding lines_pass
lines_pass_lem refuse w line [] go a = refl
lines_pass_lem refuse w line (l ∷ ls) go a = rw (names_pass (8 / w) l a.0) (lines_pass_lem refuse w (suc line) ls go a.1)

-- a good recipe passes all tests
pub good_passes : {R : Type 0} (refuse : Refused → R) (r : Recipe) (go : R) → Good r → tested refuse r go ≡ go
good_passes refuse r go g = rw (g.width, le-leb r.count lines_max g.few) (lines_pass_lem refuse r.width 2 (recipe_lines r) go g.lines)

pub good_translates : (r : Recipe) (slots : List Step) → Good r → steps_of r.width (recipe_lines r) ≤ length slots
    → translate_of r slots ≡ translated (Ok (steps_of r.width (recipe_lines r))) (over (numbered_of r.width 2 (recipe_lines r)) slots)
unfolding translate_of
good_translates r slots g h =
    good_passes (λ k. translated (Err k) slots) r _ g ∙ rw (le-leb (steps_of r.width (recipe_lines r)) (length slots) h)

-- and only a good recipe is translated, where there is room
pub translated_good : (r : Recipe) (slots : List Step) → IsOk (translate_of r slots).told → Good r × (steps_of r.width (recipe_lines r) ≤ length slots)
unfolding translate_of
translated_good r slots =
    tests_agree (λ (t : Translated) (u : Unit {0}). IsOk t.told → Good r × (steps_of r.width (recipe_lines r) ≤ length slots)) (λ k. translated (Err k) slots) (λ k. tt)
    (λ k h. absurd (false≢true h)) r _ tt (λ g. room g (leb (steps_of r.width (recipe_lines r)) (length slots)) refl)
  where
    room : Good r → (t : Bool) → leb (steps_of r.width (recipe_lines r)) (length slots) ≡ t
        → IsOk (cond t (translated (Ok (steps_of r.width (recipe_lines r))) (over (numbered_of r.width 2 (recipe_lines r)) slots)) (translated (Err (at_line NoSpace 0)) slots)).told
        → Good r × (steps_of r.width (recipe_lines r) ≤ length slots)
    room g true e h = (g, leb-true (steps_of r.width (recipe_lines r)) (length slots) e)
    room g false e h = absurd (false≢true h)

pub read_translates : (text : List ℕ) (r : Recipe) (slots : List Step) → read_of text ≡ Ok r → steps_of r.width (recipe_lines r) ≤ length slots
    → translate_of r slots ≡ translated (Ok (steps_of r.width (recipe_lines r))) (over (numbered_of r.width 2 (recipe_lines r)) slots)
read_translates text r slots e h = good_translates r slots (read_sound text r e) h
