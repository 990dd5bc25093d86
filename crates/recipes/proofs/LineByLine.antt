-- Laws of `lines_of`, one for each way that the reader's loop goes on, and of the slots that it fills. Assumes nothing.
use Prim.Native.Nat.{ℕ, suc, ◌+◌, ◌-◌, ◌/◌, ◌≤◌, ◌<◌}
use mathlib.Core.Bool.{Bool, true, false, cond}
use mathlib.Core.List.{List, [], ◌∷◌, ◌++◌, append_assoc}
use mathlib.Core.Path.{◌≡◌, refl}
use native.Mathlib.Nat.{not-suc-le-zero}
use native.Mathlib.Omega.{arith}
use lib.Dec.{eqb}
use lib.ListN.{length, set, length-append}
use lib.Seq.{set-append_seam}
use borrow.Author.Tests.{eq-eqb, ne_eqb}
use Rattle.text.specs.Text.{before, after, parts}
use Rattle.recipes.specs.Reader.{padded, past, accepted, refused_at, or_slip, line_of, lines_of}
use Rattle.recipes.specs.declared.types.Line.{Line}
use Rattle.recipes.specs.declared.types.Refusal.TheVariants.{NoNewline, TooManyLines}
use Rattle.recipes.specs.Recipe.{lines_max}

module _ (w : ℕ) (ls : List Line) where
  -- a line has begun behind `lines_max`
  pub lines_many : (xs : List ℕ) → 0 < length xs → length ls ≡ lines_max → lines_of w ls (before 10 xs) (after 10 xs) ≡ refused_at TooManyLines (length ls + 2) 0
  unfolding lines_of before after
  lines_many [] h e = absurd (not-suc-le-zero h)
  lines_many (x ∷ xs) h e = go (eqb x 10) (after 10 xs)
    where
      go : (t : Bool) (more : List (List ℕ)) → lines_of w ls (cond t [] (x ∷ before 10 xs)) (cond t (parts 10 xs) more) ≡ refused_at TooManyLines (length ls + 2) 0
      go true more = rw (eq-eqb (length ls) lines_max e)
      go false [] = rw (eq-eqb (length ls) lines_max e)
      go false (next ∷ more) = rw (eq-eqb (length ls) lines_max e)

  -- the text ends in a line
  pub lines_cut : (xs : List ℕ) → 0 < length xs → length ls < lines_max → lines_of w ls xs [] ≡ refused_at NoNewline (length ls + 2) (past 0 xs)
  unfolding lines_of
  lines_cut [] h l = absurd (not-suc-le-zero h)
  lines_cut (x ∷ xs) h l = rw (ne_eqb (length ls) lines_max (λ e. omega arith))

  -- a whole line, and the parts after it
  pub lines_next : (row next : List ℕ) (more : List (List ℕ)) → length ls < lines_max → lines_of w ls row (next ∷ more) ≡ or_slip (line_of (8 / w) row) (length ls + 2) (λ l. lines_of w (ls ++ (l ∷ [])) next more)
  unfolding lines_of
  lines_next row next more l = rw (ne_eqb (length ls) lines_max (λ e. omega arith))

  -- no text is left
  pub lines_done : (xs : List ℕ) → length xs ≤ 0 → lines_of w ls (before 10 xs) (after 10 xs) ≡ accepted w ls
  unfolding lines_of before after
  lines_done [] h = refl
  lines_done (x ∷ xs) h = absurd (not-suc-le-zero h)

-- one more slot is filled
pub padded_more : (ls : List Line) (l : Line) → length ls < lines_max → set (padded ls) (length ls) l ≡ padded (ls ++ (l ∷ []))
padded_more ls l h =
    let n : lines_max - length ls ≡ suc (lines_max - length (ls ++ (l ∷ []))) = rw length-append (omega arith) in
    rw (n, set-append_seam, append_assoc)
