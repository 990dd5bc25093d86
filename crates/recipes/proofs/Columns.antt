-- Where a slip is: document 02, item 1. A column counts the bytes of a text line from 1. Assumes nothing.
--     line_slips      a line that isn't read has a number, and a column exactly if it is 11, 12 or 13: of one of its bytes, or of the byte 10 behind it
--     column_none     the column of an accepted text is 0
--     column_points   that of a refused one points at a byte of its line or one past it; for 14 the text ends there
use Prim.Native.Nat.{ℕ, suc, ◌+◌, ◌/◌, ◌≤◌, ◌<◌}
use mathlib.Core.Bool.{Bool, true, false, cond, ◌||◌, ◌&&◌, false≢true}
use mathlib.Core.List.{List, [], ◌∷◌, ◌++◌}
use mathlib.Core.Path.{◌≡◌, refl, sym, ap, ◌∙◌, subst}
use native.Mathlib.Omega.{arith}
use borrow.Author.Tests.{lt-ltb}
use lib.Dec.{eqb, leb, ltb}
use lib.ListN.{length, get_or, length-append}
use Rattle.std.specs.Prelude.{Option, Some, None, Result, Ok, Err}
use Rattle.recipes.specs.declared.types.Verb.{Verb}
use Rattle.recipes.specs.declared.types.Line.{Line}
use Rattle.recipes.specs.declared.types.Recipe.{Recipe}
use Rattle.recipes.specs.declared.types.Refusal.{Refusal}
use Rattle.recipes.specs.declared.types.Refusal.TheVariants.{WidthLine, TooManyLines, WrongFields, NotADigit, NoNewline}
use Rattle.recipes.specs.declared.types.Refused.{Refused}
use Rattle.recipes.specs.declared.reader.Slip.{Slip}
use Rattle.text.specs.Text.{before, after, parts, digit_of}
use Rattle.recipes.specs.Recipe.{lines_max, number_of, takes_two, is_copy, target, line_refusal}
use Rattle.recipes.proofs.Accepting.{named_by}
use Rattle.recipes.specs.Reader.{verb_of, past, with_one, with_two, one_field, two_fields, fields_of, if_passes, line_checked, then_checked, line_of, or_slip, lines_of, refused_at, width_line, with_width, from_first, read_of}

-- ---- the parts of a text

-- the bytes of the parts after the first, with the byte before each
abbrev pub behind : List (List ℕ) → ℕ
behind [] = 0
behind (f ∷ fs) = suc (length f + behind fs)

pub parts_size : (b : ℕ) (xs : List ℕ) → length (before b xs) + behind (after b xs) ≡ length xs
unfolding before after
parts_size b [] = refl
parts_size b (x ∷ xs) = go (eqb x b) (parts_size b xs)
  where
    go : (t : Bool) → length (before b xs) + behind (after b xs) ≡ length xs
        → length (cond t [] (x ∷ before b xs)) + behind (cond t (before b xs ∷ after b xs) (after b xs)) ≡ suc (length xs)
    go true e = omega arith
    go false e = omega arith

-- the byte behind a line's first field
pub past_first : (f : List ℕ) → past 0 f ≡ length f + 1
past_first f = omega arith

-- ---- a line

-- a refusal k at column c, in a line of `len` bytes that has its byte 10: a column exactly if it is 11 to 13, and never 14
pub record Slipped (len : ℕ) (k : Refusal) (c : ℕ) : Type 0 where
  pub told : ltb 0 c ≡ leb 11 (number_of k)
  pub within : c ≤ len + 1
  pub whole : ltb (number_of k) 14 ≡ true

abbrev pub Slips : (len : ℕ) → Result Line Slip → Type 0
Slips len (Err s) = Slipped len s.refusal s.column
Slips len (Ok l) = Unit {0}

wrong : {len : ℕ} (c : ℕ) → 0 < c → c ≤ len + 1 → Slipped len WrongFields c
wrong c h l = record { told = lt-ltb 0 c h; within = l; whole = refl }

no_digit : {len : ℕ} (c : ℕ) → 0 < c → c ≤ len + 1 → Slipped len NotADigit c
no_digit c h l = record { told = lt-ltb 0 c h; within = l; whole = refl }

module _ (len : ℕ) (v : Verb) where
  one_slips : (c : ℕ) (d : Option ℕ) → 0 < c → c ≤ len + 1 → Slips len (with_one v c d)
  one_slips c (Some a) h l = tt
  one_slips c None h l = no_digit c h l

  two_slips : (c e : ℕ) (d f : Option ℕ) → 0 < c → c ≤ e → e ≤ len + 1 → Slips len (with_two v c e d f)
  two_slips c e (Some a) (Some b) h i l = tt
  two_slips c e (Some a) None h i l = no_digit e (omega arith) l
  two_slips c e None f h i l = no_digit c h (omega arith)

  single_slips : (at : ℕ) (fields : List (List ℕ)) → 0 < at → at + behind fields ≤ len + 1 → Slips len (one_field v at fields)
  single_slips at [] h l = wrong at h (omega arith)
  single_slips at (f ∷ []) h l = one_slips (at + 1) (digit_of f) (omega arith) (omega arith)
  single_slips at (f ∷ g ∷ more) h l = wrong (past at f + 1) (omega arith) (omega arith)

  pair_slips : (at : ℕ) (fields : List (List ℕ)) → 0 < at → at + behind fields ≤ len + 1 → Slips len (two_fields v at fields)
  pair_slips at [] h l = wrong at h (omega arith)
  pair_slips at (f ∷ []) h l = wrong (past at f) (omega arith) (omega arith)
  pair_slips at (f ∷ g ∷ []) h l = two_slips (at + 1) (past at f + 1) (digit_of f) (digit_of g) (omega arith) (omega arith) (omega arith)
  pair_slips at (f ∷ g ∷ i ∷ more) h l = wrong (past (past at f) g + 1) (omega arith) (omega arith)

fields_slip : (len : ℕ) (r : Option Verb) (at : ℕ) (fields : List (List ℕ)) → 0 < at → at + behind fields ≤ len + 1 → Slips len (fields_of r at fields)
fields_slip len None at fields h l = record { told = refl; within = omega arith; whole = refl }
fields_slip len (Some v) at fields h l = go (takes_two v)
  where
    go : (t : Bool) → Slips len (cond t (two_fields v at fields) (one_field v at fields))
    go true = pair_slips len v at fields h l
    go false = single_slips len v at fields h l

-- 6 and 7
checked_slips : (len n : ℕ) (l : Line) → Slips len (line_checked n l)
unfolding line_refusal
checked_slips len n l = go (leb n l.a) (leb n (target l)) (is_copy l.verb) (eqb l.a (target l))
  where
    go : (t u c s : Bool) → Slips len (if_passes l (named_by (t || u) (c && s)))
    go true u c s = record { told = refl; within = omega arith; whole = refl }
    go false true c s = record { told = refl; within = omega arith; whole = refl }
    go false false true true = record { told = refl; within = omega arith; whole = refl }
    go false false true false = tt
    go false false false s = tt

then_slips : (len n : ℕ) (c : Result Line Slip) → Slips len c → Slips len (then_checked n c)
then_slips len n (Err s) h = h
then_slips len n (Ok l) h = checked_slips len n l

pub line_slips : (n : ℕ) (row : List ℕ) → Slips (length row) (line_of n row)
unfolding line_of
line_slips n row =
    then_slips (length row) n (fields_of (verb_of (before 9 row)) (past 0 (before 9 row)) (after 9 row))
    (fields_slip (length row) (verb_of (before 9 row)) (past 0 (before 9 row)) (after 9 row) (omega arith) (omega (arith, parts_size 9 row)))

-- ---- a text

-- A refusal of one of these rows, of which the first has the text line `first`: it has a column exactly if it is 11 to 14, of a byte of that row or one past
-- it; 14 says that the row is the last, and points past it
pub record Points (first : ℕ) (rows : List (List ℕ)) (r : Refused) : Type 0 where
  pub index : ℕ
  pub among : index < length rows
  pub line : r.line ≡ first + index
  pub told : ltb 0 r.column ≡ leb 11 (number_of r.refusal)
  pub within : r.column ≤ length (get_or rows index []) + 1
  pub ends : number_of r.refusal ≡ 14 → (length rows ≡ suc index) × (r.column ≡ length (get_or rows index []) + 1)

abbrev Told : (first : ℕ) (rows : List (List ℕ)) → Result Recipe Refused → Type 0
Told first rows (Ok r) = Unit {0}
Told first rows (Err k) = Points first rows k

-- one of the first row that is not 14
here : (first : ℕ) (row : List ℕ) (rows : List (List ℕ)) (k : Refusal) (c : ℕ) → Slipped (length row) k c → Told first (row ∷ rows) (refused_at k first c)
here first row rows k c s = record {
  index = 0;
  among = omega arith;
  line = omega arith;
  told = s.told;
  within = omega (arith, s.within);
  ends = λ is. absurd (false≢true (ap (λ (n : ℕ). ltb n 14) (sym is) ∙ s.whole));
}

-- one of a later row
later : (first next : ℕ) (row : List ℕ) (rows : List (List ℕ)) (r : Result Recipe Refused) → next ≡ suc first → Told next rows r → Told first (row ∷ rows) r
later first next row rows (Ok r) is p = tt
later first next row rows (Err k) is p = record {
  index = suc p.index;
  among = omega (arith, p.among);
  line = omega (arith, p.line);
  told = p.told;
  within = p.within;
  ends = λ fourteen. (ap suc (p.ends fourteen).0, (p.ends fourteen).1);
}

many : (len : ℕ) → Slipped len TooManyLines 0
many len = record { told = refl; within = omega arith; whole = refl }

no_width : (len : ℕ) → Slipped len WidthLine 0
no_width len = record { told = refl; within = omega arith; whole = refl }

lines_told : (w : ℕ) (ls : List Line) (row : List ℕ) (more : List (List ℕ)) → Told (length ls + 2) (row ∷ more) (lines_of w ls row more)
unfolding lines_of
lines_told w ls [] [] = tt
lines_told w ls (x ∷ xs) [] = go (eqb (length ls) lines_max)
  where
    go : (t : Bool) → Told (length ls + 2) ((x ∷ xs) ∷ []) (cond t (refused_at TooManyLines (length ls + 2) 0) (refused_at NoNewline (length ls + 2) (past 0 (x ∷ xs))))
    go true = here (length ls + 2) (x ∷ xs) [] TooManyLines 0 (many (length (x ∷ xs)))
    go false = record {
      index = 0;
      among = omega arith;
      line = omega arith;
      told = lt-ltb 0 (past 0 (x ∷ xs)) (omega arith);
      within = omega arith;
      ends = λ is. (refl, omega arith);
    }
lines_told w ls row (next ∷ more) = full (eqb (length ls) lines_max) (λ l. lines_told w (ls ++ (l ∷ [])) next more)
  where
    by : (c : Result Line Slip) → Slips (length row) c → ((l : Line) → Told (length (ls ++ (l ∷ [])) + 2) (next ∷ more) (lines_of w (ls ++ (l ∷ [])) next more))
        → Told (length ls + 2) (row ∷ next ∷ more) (or_slip c (length ls + 2) (λ l. lines_of w (ls ++ (l ∷ [])) next more))
    by (Err k) s go = here (length ls + 2) row (next ∷ more) k.refusal k.column s
    by (Ok l) s go = later (length ls + 2) (length (ls ++ (l ∷ [])) + 2) row (next ∷ more) _ (rw length-append (omega arith)) (go l)

    full : (t : Bool) → ((l : Line) → Told (length (ls ++ (l ∷ [])) + 2) (next ∷ more) (lines_of w (ls ++ (l ∷ [])) next more))
        → Told (length ls + 2) (row ∷ next ∷ more) (cond t (refused_at TooManyLines (length ls + 2) 0) (or_slip (line_of (8 / w) row) (length ls + 2) (λ l. lines_of w (ls ++ (l ∷ [])) next more)))
    full true go = here (length ls + 2) row (next ∷ more) TooManyLines 0 (many (length row))
    full false go = by (line_of (8 / w) row) (line_slips (8 / w) row) go

text_told : (text : List ℕ) → Told 1 (parts 10 text) (read_of text)
unfolding read_of
text_told text = first (before 10 text) (after 10 text)
  where
    first : (row : List ℕ) (more : List (List ℕ)) → Told 1 (row ∷ more) (from_first row more)
    first row [] = here 1 row [] WidthLine 0 (no_width (length row))
    first row (next ∷ more) = go (width_line row)
      where
        go : (w : Option ℕ) → Told 1 (row ∷ next ∷ more) (with_width w next more)
        go None = here 1 row (next ∷ more) WidthLine 0 (no_width (length row))
        go (Some w) = later 1 2 row (next ∷ more) _ refl (lines_told w [] next more)

-- what is told of a reading: a refusal's number, line and column, and 0 where nothing is refused
abbrev pub number_in : Result Recipe Refused → ℕ
number_in (Ok r) = 0
number_in (Err k) = number_of k.refusal

abbrev pub line_in : Result Recipe Refused → ℕ
line_in (Ok r) = 0
line_in (Err k) = k.line

abbrev pub column_in : Result Recipe Refused → ℕ
column_in (Ok r) = 0
column_in (Err k) = k.column

pub column_none : (text : List ℕ) (r : Recipe) → read_of text ≡ Ok r → column_in (read_of text) ≡ 0
column_none text r e = ap column_in e

pub column_points : (text : List ℕ) (k : Refused) → read_of text ≡ Err k → Points 1 (parts 10 text) k
column_points text k e = subst (Told 1 (parts 10 text)) e (text_told text)
