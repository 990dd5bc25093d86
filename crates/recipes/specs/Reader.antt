-- What recipe text means: document 01, "Recipes" and "Refusal numbers", with document 02, item 1. A text is any list of bytes. A column counts the bytes
-- of a text line from 1. Assumes nothing.
use Rattle.std.specs.Prelude.{ℕ, ◌+◌, ◌-◌, ◌/◌, cond, Option, Some, None, Result, Ok, Err, List, [], ◌∷◌, ◌++◌, eqb, length, replicate}
use Rattle.recipes.specs.declared.types.Verb.{Verb}
use Rattle.recipes.specs.declared.types.Verb.TheVariants.{Clear, Copy, Add, Sub, Neg, Not, Halve, Down, Up}
use Rattle.recipes.specs.declared.types.Line.{Line}
use Rattle.recipes.specs.declared.types.Recipe.{Recipe}
use Rattle.recipes.specs.declared.types.Refusal.{Refusal}
use Rattle.recipes.specs.declared.types.Refusal.TheVariants.{WidthLine, TooManyLines, UnknownVerb, WrongFields, NotADigit, NoNewline}
use Rattle.recipes.specs.declared.types.Refused.{Refused}
use Rattle.recipes.specs.declared.reader.Slip.{Slip}
use Rattle.text.specs.Text.{ascii, same_bytes, before, after, digit_of}
use Rattle.recipes.specs.Recipe.{lines_max, takes_two, is_width, unused, line_refusal, at_column}

-- ---- answers

-- lines, and `clear 0` in the slots past them
abbrev pub padded : List Line → List Line
padded ls = ls ++ replicate (lines_max - length ls) unused

-- a recipe of width w with the lines ls
abbrev pub accepted : (w : ℕ) → List Line → Result Recipe Refused
accepted w ls = Ok (record { width = w; count = length ls; lines = padded ls })

-- the recipe of a refused text: width 1 and no lines
abbrev pub no_recipe : Recipe
no_recipe = record { width = 1; count = 0; lines = padded [] }

-- a refusal with its text line and column
abbrev pub refused_at : Refusal → (line column : ℕ) → Result Recipe Refused
refused_at k line column = Err (at_column k line column)

-- ---- fields

unfoldable pub verb_of : List ℕ → Option Verb
verb_of field =
    cond (same_bytes field (ascii "clear")) (Some Clear)
    (cond (same_bytes field (ascii "copy")) (Some Copy)
    (cond (same_bytes field (ascii "add")) (Some Add)
    (cond (same_bytes field (ascii "sub")) (Some Sub)
    (cond (same_bytes field (ascii "neg")) (Some Neg)
    (cond (same_bytes field (ascii "not")) (Some Not)
    (cond (same_bytes field (ascii "halve")) (Some Halve)
    (cond (same_bytes field (ascii "down")) (Some Down)
    (cond (same_bytes field (ascii "up")) (Some Up)
    None))))))))

-- ---- a line, without its byte 10: its first field is the verb, the others are numbers. A slip has a column

-- the column of the byte behind a field: its tab, or the line's byte 10. `at` is that of the byte behind the field before, and 0 for the first: a field begins
-- at column at + 1
abbrev pub past : (at : ℕ) → (field : List ℕ) → ℕ
past at field = at + 1 + length field

abbrev pub slip : Refusal → (column : ℕ) → Slip
slip k c = record { refusal = k; column = c }

abbrev pub slipped : Refusal → (column : ℕ) → Result Line Slip
slipped k c = Err (slip k c)

-- a verb with the digit that it takes, which stands at column c; with two, at c and d: 13 at the first that is none
abbrev pub with_one : Verb → (c : ℕ) → Option ℕ → Result Line Slip
with_one v c (Some a) = Ok (record { verb = v; a = a; b = 0 })
with_one v c None = slipped NotADigit c

abbrev pub with_two : Verb → (c d : ℕ) → Option ℕ → Option ℕ → Result Line Slip
with_two v c d (Some a) (Some b) = Ok (record { verb = v; a = a; b = b })
with_two v c d (Some a) None = slipped NotADigit d
with_two v c d None e = slipped NotADigit c

-- a verb that takes one number, and one that takes two, with the fields behind it; the tab or byte 10 behind the verb has the column `at`. 12 is at the early
-- byte 10, or at the first field too many
abbrev pub one_field : Verb → (at : ℕ) → List (List ℕ) → Result Line Slip
one_field v at [] = slipped WrongFields at
one_field v at (f ∷ []) = with_one v (at + 1) (digit_of f)
one_field v at (f ∷ g ∷ more) = slipped WrongFields (past at f + 1)

abbrev pub two_fields : Verb → (at : ℕ) → List (List ℕ) → Result Line Slip
two_fields v at [] = slipped WrongFields at
two_fields v at (f ∷ []) = slipped WrongFields (past at f)
two_fields v at (f ∷ g ∷ []) = with_two v (at + 1) (past at f + 1) (digit_of f) (digit_of g)
two_fields v at (f ∷ g ∷ h ∷ more) = slipped WrongFields (past (past at f) g + 1)

-- a field in the verb's place, with the fields after it
abbrev pub fields_of : Option Verb → (at : ℕ) → List (List ℕ) → Result Line Slip
fields_of None at fields = slipped UnknownVerb 1
fields_of (Some v) at fields = cond (takes_two v) (two_fields v at fields) (one_field v at fields)

-- 6 and 7, which have no column
abbrev pub if_passes : Line → Result (Unit {0}) Refusal → Result Line Slip
if_passes l (Ok passed) = Ok l
if_passes l (Err k) = slipped k 0

abbrev pub line_checked : (n : ℕ) → Line → Result Line Slip
line_checked n l = if_passes l (line_refusal n l)

abbrev pub then_checked : (n : ℕ) → Result Line Slip → Result Line Slip
then_checked n (Err s) = Err s
then_checked n (Ok l) = line_checked n l

-- a text line in a recipe of n numbers: 11, 12, 13, then 6 and 7
unfoldable pub line_of : (n : ℕ) → List ℕ → Result Line Slip
line_of n row = then_checked n (fields_of (verb_of (before 9 row)) (past 0 (before 9 row)) (after 9 row))

-- ---- the lines after the width line. Behind the lines ls the next has text line `length ls + 2`

abbrev pub or_slip : Result Line Slip → (line : ℕ) → (Line → Result Recipe Refused) → Result Recipe Refused
or_slip (Err s) line go = refused_at s.refusal line s.column
or_slip (Ok l) line go = go l

-- what stands behind the last byte 10: nothing, or a line that lacks its byte 10, which is 14 at the column where that would stand, past the text
abbrev pub end_of : (w : ℕ) → List Line → List ℕ → Result Recipe Refused
end_of w ls [] = accepted w ls
end_of w ls (x ∷ xs) =
    cond (eqb (length ls) lines_max) (refused_at TooManyLines (length ls + 2) 0)
    (refused_at NoNewline (length ls + 2) (past 0 (x ∷ xs)))

-- ls are the lines read so far; row and more are the rest of the text, parted at byte 10, so that a row with a part behind it is a whole line. On each
-- line in turn 8, then 14, then those of `line_of`
unfoldable pub lines_of : (w : ℕ) → List Line → (row : List ℕ) → (more : List (List ℕ)) → Result Recipe Refused
lines_of w ls row [] = end_of w ls row
lines_of w ls row (next ∷ more) =
    cond (eqb (length ls) lines_max) (refused_at TooManyLines (length ls + 2) 0)
    (or_slip (line_of (8 / w) row) (length ls + 2) (λ l. lines_of w (ls ++ (l ∷ [])) next more))

-- ---- the width line: 4 for every slip, without a column

-- the digit that is the only field
abbrev pub only_digit : List (List ℕ) → Option ℕ
only_digit [] = None
only_digit (f ∷ []) = digit_of f
only_digit (f ∷ g ∷ more) = None

-- the width that a digit gives, if it is one
abbrev pub width_digit : Option ℕ → Option ℕ
width_digit (Some d) = cond (is_width d) (Some d) None
width_digit None = None

unfoldable pub width_line : List ℕ → Option ℕ
width_line row = cond (same_bytes (before 9 row) (ascii "width")) (width_digit (only_digit (after 9 row))) None

-- the first line, and the parts after it
abbrev pub with_width : Option ℕ → (next : List ℕ) → (more : List (List ℕ)) → Result Recipe Refused
with_width None next more = refused_at WidthLine 1 0
with_width (Some w) next more = lines_of w [] next more

abbrev pub from_first : List ℕ → List (List ℕ) → Result Recipe Refused
from_first row [] = refused_at WidthLine 1 0
from_first row (next ∷ more) = with_width (width_line row) next more

-- a recipe text
unfoldable pub read_of : List ℕ → Result Recipe Refused
read_of text = from_first (before 10 text) (after 10 text)
