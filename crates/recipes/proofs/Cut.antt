-- Document 01: the program "reads at most the first 1,024 bytes of standard input (a longer text meets its refusal within them)". Assumes nothing.
-- Document 02, item 1: the text is then those bytes, and a line that is cut has no byte 10.
--     read_refused   a text of 340 bytes or more is refused, on the same line whatever follows
--     cut_refused    so the first `text_max` bytes of a longer text are refused, and long_refused: the text is too
--     cut_line       on the same line
--     cut_reads      they are read as the text is, unless they are refused with 14; cut_answers: and answered
--     cut_slips      where they are, the text is refused with one of 11 to 14
use Prim.Native.Nat.{ℕ, ◌+◌, ◌*◌, ◌/◌, ◌≤◌, ◌<◌}
use mathlib.Core.Bool.{Bool, true, false, cond, false≢true}
use mathlib.Core.List.{List, [], ◌∷◌, ◌++◌, append-nil}
use mathlib.Core.Logic.{◌⊎◌, inl, inr, ⊎_elim}
use mathlib.Core.Path.{◌≡◌, refl, sym, ap, ap₂, ◌∙◌, subst, subst⁻¹}
use native.Mathlib.Decide.{dec_le}
use native.Mathlib.Nat.{eq-or-lt_of_le}
use native.Mathlib.Omega.{arith}
use borrow.Author.Tests.{eq-eqb, ne_eqb}
use lib.Dec.{eqb, leb, ltb}
use lib.ListN.{length, take, drop, length-append, length-take, take-append-drop}
use lib.Seq.{take_all}
use Rattle.std.specs.Prelude.{Option, Some, None, Result, Ok, Err, is_err, IsErr}
use Rattle.recipes.specs.declared.types.Verb.{Verb}
use Rattle.recipes.specs.declared.types.Line.{Line}
use Rattle.recipes.specs.declared.types.Recipe.{Recipe}
use Rattle.recipes.specs.declared.types.Refused.{Refused}
use Rattle.recipes.specs.declared.types.Refusal.{Refusal}
use Rattle.recipes.specs.declared.types.Refusal.TheVariants.{WidthLine, TooManyLines, NoNewline}
use Rattle.recipes.specs.declared.reader.Slip.{Slip}
use Rattle.text.specs.Text.{ascii, before, after, digit_of}
use Rattle.recipes.specs.Recipe.{lines_max, number_of, at_column, takes_two}
use Rattle.recipes.specs.Reader.{refused_at, verb_of, past, only_digit, with_two, one_field, two_fields, fields_of, then_checked, line_of, or_slip, lines_of, width_line, with_width, from_first, read_of}
use Rattle.recipes.specs.Printer.{text_max, reading_printed, answer_of}
use Rattle.recipes.proofs.Accepting.{cond_same}
use Rattle.recipes.proofs.Words.{differs, long_word}
use Rattle.recipes.proofs.Columns.{behind, parts_size, Slips, line_slips, number_in, line_in}
use Rattle.recipes.proofs.LineByLine.{lines_cut, lines_next}

or_less : (a b : ℕ) → (a ≤ b) ⊎ (b < a)
or_less a b = go (dec_le a b)
  where
    go : Dec (a ≤ b) → (a ≤ b) ⊎ (b < a)
    go (yes h) = inl h
    go (no h) = inr (omega arith)

-- ---- the parts of a text

-- the parts of a text with the bytes s behind it: of its first part, and of those after it
abbrev front : List ℕ → List (List ℕ) → List ℕ → List ℕ
front row [] s = row ++ before 10 s
front row (next ∷ more) s = row

abbrev rest : List (List ℕ) → List ℕ → List (List ℕ)
rest [] s = after 10 s
rest (next ∷ more) s = front next more s ∷ rest more s

front_cons : (x : ℕ) (row : List ℕ) (more : List (List ℕ)) (s : List ℕ) → x ∷ front row more s ≡ front (x ∷ row) more s
front_cons x row [] s = refl
front_cons x row (next ∷ more) s = refl

parts_on : (p s : List ℕ) → (before 10 (p ++ s) ≡ front (before 10 p) (after 10 p) s) × (after 10 (p ++ s) ≡ rest (after 10 p) s)
unfolding before after
parts_on [] s = (refl, refl)
parts_on (x ∷ p) s = go (eqb x 10) (parts_on p s)
  where
    go : (t : Bool) → (before 10 (p ++ s) ≡ front (before 10 p) (after 10 p) s) × (after 10 (p ++ s) ≡ rest (after 10 p) s)
        → (cond t [] (x ∷ before 10 (p ++ s)) ≡ front (cond t [] (x ∷ before 10 p)) (cond t (before 10 p ∷ after 10 p) (after 10 p)) s)
        × (cond t (before 10 (p ++ s) ∷ after 10 (p ++ s)) (after 10 (p ++ s)) ≡ rest (cond t (before 10 p ∷ after 10 p) (after 10 p)) s)
    go true h = (refl, ap₂ (λ (a : List ℕ) (l : List (List ℕ)). a ∷ l) h.0 h.1)
    go false h = (ap (λ (l : List ℕ). x ∷ l) h.0 ∙ front_cons x (before 10 p) (after 10 p) s, h.1)

-- ---- a row of 10 bytes or more is no line

long_digit : (field : List ℕ) → 2 ≤ length field → digit_of field ≡ None
unfolding digit_of
long_digit field h = rw (ne_eqb (length field) 1 (λ e. omega arith))

long_one : (fields : List (List ℕ)) → 3 ≤ behind fields → only_digit fields ≡ None
long_one [] h = refl
long_one (f ∷ []) h = long_digit f (omega arith)
long_one (f ∷ g ∷ more) h = refl

-- one of 11 to 14
abbrev pub named : Refusal → Bool
named k = leb 11 (number_of k)

abbrev Misread : Result Line Slip → Type 0
Misread (Err s) = named s.refusal ≡ true
Misread (Ok l) = ⊥

second_bad : (v : Verb) (c e : ℕ) (d : Option ℕ) → Misread (with_two v c e d None)
second_bad v c e (Some a) = refl
second_bad v c e None = refl

module _ (v : Verb) (at : ℕ) where
  single_misread : (fields : List (List ℕ)) → 5 ≤ behind fields → Misread (one_field v at fields)
  single_misread [] h = refl
  single_misread (f ∷ []) h = rw (long_digit f (omega arith)) refl
  single_misread (f ∷ g ∷ more) h = refl

  pair_misread : (fields : List (List ℕ)) → 5 ≤ behind fields → Misread (two_fields v at fields)
  pair_misread [] h = refl
  pair_misread (f ∷ []) h = refl
  pair_misread (f ∷ g ∷ []) h =
      ⊎_elim (λ l. rw (long_digit f l) refl) (λ l. rw (long_digit g (omega arith)) (second_bad v (at + 1) (past at f + 1) (digit_of f))) (or_less 2 (length f))
  pair_misread (f ∷ g ∷ i ∷ more) h = refl

fields_misread : (r : Option Verb) (at : ℕ) (fields : List (List ℕ)) → 5 ≤ behind fields → Misread (fields_of r at fields)
fields_misread None at fields h = refl
fields_misread (Some v) at fields h = go (takes_two v)
  where
    go : (t : Bool) → Misread (cond t (two_fields v at fields) (one_field v at fields))
    go true = pair_misread v at fields h
    go false = single_misread v at fields h

then_misread : (n : ℕ) (c : Result Line Slip) → Misread c → Misread (then_checked n c)
then_misread n (Err s) h = h
then_misread n (Ok l) h = absurd h

-- its first field is no word, or there is too much behind it
long_row : (n : ℕ) (row : List ℕ) → 10 ≤ length row → Misread (line_of n row)
unfolding line_of
long_row n row h =
    then_misread n (fields_of (verb_of (before 9 row)) (past 0 (before 9 row)) (after 9 row))
    (⊎_elim (λ l. rw (long_word (before 9 row) l) refl) (λ l. fields_misread (verb_of (before 9 row)) (past 0 (before 9 row)) (after 9 row) (omega (arith, parts_size 9 row)))
    (or_less 6 (length (before 9 row))))

long_width : (row : List ℕ) → 10 ≤ length row → width_line row ≡ None
unfolding width_line
long_width row h =
    ⊎_elim (λ l. rw (differs (before 9 row) (ascii "width") l)) (λ l. rw (long_one (after 9 row) (omega (arith, parts_size 9 row)), cond_same))
    (or_less 6 (length (before 9 row)))

-- ---- a text that is refused, whatever follows

-- it is refused on the same line; by the same number and column, or else by one of 11 to 14, of which 14 stands where nothing follows
record Met (read : List ℕ → Result Recipe Refused) : Type 0 where
  refused : List ℕ → Refused
  is : (s : List ℕ) → read s ≡ Err (refused s)
  line : ℕ
  lines : (s : List ℕ) → (refused s).line ≡ line
  same : (number_of (refused []).refusal ≡ 14 → ⊥) → (s : List ℕ) → refused s ≡ refused []
  slips : number_of (refused []).refusal ≡ 14 → (s : List ℕ) → named (refused s).refusal ≡ true

-- a refusal that is the same, and one that is met later
met : {read : List ℕ → Result Recipe Refused} (k : Refusal) (line column : ℕ) → (number_of k ≡ 14 → ⊥) → ((s : List ℕ) → read s ≡ refused_at k line column) → Met read
met k line column apart f = record {
  refused = λ s. at_column k line column;
  is = f;
  line = line;
  lines = λ s. refl;
  same = λ e s. refl;
  slips = λ e. absurd (apart e);
}

later : {read rest : List ℕ → Result Recipe Refused} → ((s : List ℕ) → read s ≡ rest s) → Met rest → Met read
later f m = record { refused = m.refused; is = λ s. f s ∙ m.is s; line = m.line; lines = m.lines; same = m.same; slips = m.slips }

-- refused by one of 11 to 14 on this line
record Named (line : ℕ) (r : Result Recipe Refused) : Type 0 where
  refused : Refused
  is : r ≡ Err refused
  there : refused.line ≡ line
  one : named refused.refusal ≡ true

module _ (w : ℕ) (ls : List Line) where
  -- behind `lines_max` lines
  many : (row : List ℕ) (more : List (List ℕ)) → length ls ≡ lines_max → 0 < length row + behind more → lines_of w ls row more ≡ refused_at TooManyLines (length ls + 2) 0
  unfolding lines_of
  many [] [] e h = absurd (omega arith)
  many (x ∷ row) [] e h = rw (eq-eqb (length ls) lines_max e)
  many row (next ∷ more) e h = rw (eq-eqb (length ls) lines_max e)

  -- a row of 10 bytes or more, with or without its byte 10
  last : (row : List ℕ) (more : List (List ℕ)) → length ls < lines_max → 10 ≤ length row → Named (length ls + 2) (lines_of w ls row more)
  last row [] l h = rw (lines_cut w ls row (omega arith) l) (record { refused = at_column NoNewline (length ls + 2) (past 0 row); is = refl; there = refl; one = refl })
  last row (next ∷ more) l h = rw (lines_next w ls row next more l) (go (line_of (8 / w) row) (long_row (8 / w) row h))
    where
      go : (c : Result Line Slip) → Misread c → Named (length ls + 2) (or_slip c (length ls + 2) (λ l. lines_of w (ls ++ (l ∷ [])) next more))
      go (Err s) m = record { refused = at_column s.refusal (length ls + 2) s.column; is = refl; there = refl; one = m }
      go (Ok l) m = absurd m

  -- the text ends in such a row
  open_row : (row : List ℕ) → length ls < lines_max → 10 ≤ length row → Met (λ s. lines_of w ls (row ++ before 10 s) (after 10 s))
  unfolding before after
  open_row row l h =
      let long : (s : List ℕ) → 10 ≤ length (row ++ before 10 s) = λ s. rw length-append (omega arith) in
      let at : (s : List ℕ) → Named (length ls + 2) (lines_of w ls (row ++ before 10 s) (after 10 s)) = λ s. last (row ++ before 10 s) (after 10 s) l (long s) in
      let ended = lines_cut w ls (row ++ []) (omega (arith, long [])) l in
      let fourteen : number_of (at []).refused.refusal ≡ 14 = ap number_in (sym (at []).is ∙ ended) in record {
        refused = λ s. (at s).refused;
        is = λ s. (at s).is;
        line = length ls + 2;
        lines = λ s. (at s).there;
        same = λ apart. absurd (apart fourteen);
        slips = λ is s. (at s).one;
      }

-- A line that is read has at most 9 bytes and its byte 10, and there are at most `lines_max`: 330 bytes meet a refusal.
lines_refused : (w : ℕ) (ls : List Line) (row : List ℕ) (more : List (List ℕ)) → length ls ≤ lines_max → 330 ≤ length row + behind more + 10 * length ls
    → Met (λ s. lines_of w ls (front row more s) (rest more s))
lines_refused w ls row [] few h =
    ⊎_elim (λ e. met TooManyLines (length ls + 2) 0 (λ is. omega arith) (λ s. many w ls (row ++ before 10 s) (after 10 s) e (rw length-append (omega arith))))
    (λ l. open_row w ls row l (omega arith))
    (eq-or-lt_of_le few)
lines_refused w ls row (next ∷ more) few h =
    ⊎_elim (λ e. met TooManyLines (length ls + 2) 0 (λ is. omega arith) (λ s. many w ls row (front next more s ∷ rest more s) e (omega arith)))
    (λ lt. by lt (line_of (8 / w) row) refl (line_slips (8 / w) row) (or_less 10 (length row)) (λ l i. lines_refused w (ls ++ (l ∷ [])) next more (rw length-append (omega arith)) (rw length-append (omega arith))))
    (eq-or-lt_of_le few)
  where
    by : length ls < lines_max → (c : Result Line Slip) → line_of (8 / w) row ≡ c → Slips (length row) c → (10 ≤ length row) ⊎ (length row < 10)
        → ((l : Line) → length row < 10 → Met (λ s. lines_of w (ls ++ (l ∷ [])) (front next more s) (rest more s)))
        → Met (λ s. lines_of w ls row (front next more s ∷ rest more s))
    by lt (Err k) e n d on =
        met k.refusal (length ls + 2) k.column (λ is. false≢true (ap (λ (m : ℕ). ltb m 14) (sym is) ∙ n.whole))
        (λ s. lines_next w ls row (front next more s) (rest more s) lt ∙ rw e)
    by lt (Ok l) e n (inl i) on = absurd (subst Misread e (long_row (8 / w) row i))
    by lt (Ok l) e n (inr i) on = later (λ s. lines_next w ls row (front next more s) (rest more s) lt ∙ rw e) (on l i)

first_refused : (row : List ℕ) (more : List (List ℕ)) → 340 ≤ length row + behind more → Met (λ s. from_first (front row more s) (rest more s))
first_refused row [] h = met WidthLine 1 0 (λ is. omega arith) (λ s. go (row ++ before 10 s) (after 10 s) (rw length-append (omega arith)))
  where
    go : (r : List ℕ) (more : List (List ℕ)) → 10 ≤ length r → from_first r more ≡ refused_at WidthLine 1 0
    go r [] i = refl
    go r (next ∷ more) i = rw (long_width r i)
first_refused row (next ∷ more) h = go (width_line row) refl (or_less 10 (length row))
  where
    go : (w : Option ℕ) → width_line row ≡ w → (10 ≤ length row) ⊎ (length row < 10) → Met (λ s. with_width w (front next more s) (rest more s))
    go None e d = met WidthLine 1 0 (λ is. omega arith) (λ s. refl)
    go (Some w) e (inl i) = let none = long_width row i in cc
    go (Some w) e (inr i) = lines_refused w [] next more (omega arith) (omega arith)

-- ---- texts

read_refused : (p : List ℕ) → 340 ≤ length p → Met (λ s. read_of (p ++ s))
unfolding read_of
read_refused p h =
    later (λ s. ap₂ from_first (parts_on p s).0 (parts_on p s).1) (first_refused (before 10 p) (after 10 p) (omega (arith, parts_size 10 p)))

-- a text and its first `text_max` bytes
module _ (text : List ℕ) where
  abbrev pub cut : Result Recipe Refused
  cut = read_of (take text_max text)

  -- P holds of the two if it holds of a reading and itself, and of a met text and that text with more behind it
  by_cut : (P : Result Recipe Refused → Result Recipe Refused → Type 0) → P (read_of text) (read_of text)
      → ((read : List ℕ → Result Recipe Refused) → Met read → (s : List ℕ) → P (read []) (read s)) → P cut (read_of text)
  by_cut P one two = ⊎_elim (λ l. subst⁻¹ (λ (t : List ℕ). P (read_of t) (read_of text)) (take_all text_max text l) one) more (or_less (length text) text_max)
    where
      more : text_max < length text → P cut (read_of text)
      more l =
          let m = read_refused (take text_max text) (omega (arith, length-take text_max text)) in
          subst (λ (t : List ℕ). P (read_of t) (read_of text)) (append-nil (take text_max text))
          (subst (λ (t : List ℕ). P (read_of (take text_max text ++ [])) (read_of t)) (take-append-drop text_max text)
          (two (λ s. read_of (take text_max text ++ s)) m (drop text_max text)))

  -- where there is more, both are refused
  pub long_refused : text_max < length text → IsErr (read_of text)
  long_refused h = subst (λ (t : List ℕ). IsErr (read_of t)) (append-nil text) (ap is_err ((read_refused text (omega arith)).is []))

  pub cut_refused : text_max < length text → IsErr cut
  cut_refused h =
      subst (λ (t : List ℕ). IsErr (read_of t)) (append-nil (take text_max text))
      (ap is_err ((read_refused (take text_max text) (omega (arith, length-take text_max text))).is []))

  -- on the same line
  pub cut_line : line_in cut ≡ line_in (read_of text)
  cut_line = by_cut (λ c r. line_in c ≡ line_in r) refl (λ read m s. ap line_in (m.is []) ∙ (m.lines [] ∙ sym (ap line_in (m.is s) ∙ m.lines s)))

  -- they are read as one, unless the cut line has no byte 10
  pub cut_reads : (number_in cut ≡ 14 → ⊥) → cut ≡ read_of text
  cut_reads =
      by_cut (λ c r. (number_in c ≡ 14 → ⊥) → c ≡ r) (λ apart. refl)
      (λ read m s apart. let same = m.same (λ is. apart (ap number_in (m.is []) ∙ is)) s in m.is [] ∙ (ap Err (sym same) ∙ sym (m.is s)))

  -- then the whole has one of 11 to 14
  pub cut_slips : number_in cut ≡ 14 → leb 11 (number_in (read_of text)) ≡ true
  cut_slips =
      by_cut (λ c r. number_in c ≡ 14 → leb 11 (number_in r) ≡ true) (λ is. ap (leb 11) is)
      (λ read m s is. ap (λ (r : Result Recipe Refused). leb 11 (number_in r)) (m.is s) ∙ m.slips (sym (ap number_in (m.is [])) ∙ is) s)

  -- so the program, which reads no more than `text_max` bytes, prints what the whole text is answered with, unless it prints 14
  pub cut_answers : (number_in cut ≡ 14 → ⊥) → answer_of (take text_max text) ≡ answer_of text
  unfolding answer_of
  cut_answers apart = ap reading_printed (cut_reads apart)
