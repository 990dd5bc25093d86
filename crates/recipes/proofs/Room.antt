-- How long printed texts are: the program's buffer of `print_max` bytes has room for any of them, whatever steps stand in a listing. Assumes nothing.
--     answer_short    the program's answer to any text
use Prim.Native.Nat.{ℕ, suc, ◌+◌, ◌*◌, ◌≤◌}
use mathlib.Core.Bool.{Bool}
use mathlib.Core.List.{List, [], ◌∷◌}
use mathlib.Core.Path.{◌≡◌, refl}
use native.Mathlib.Omega.{arith}
use borrow.Author.Tests.{leb-true}
use lib.Dec.{leb}
use lib.ListN.{length, take, length-append, length-take}
use Rattle.std.specs.Prelude.{Result, Ok, Err}
use Rattle.alu.specs.declared.types.Size.{Size}
use Rattle.alu.specs.declared.types.Size.TheVariants.{Byte, Word, Long}
use Rattle.step.specs.declared.forms.Register.{Register}
use Rattle.step.specs.declared.forms.Count.{Count}
use Rattle.step.specs.declared.forms.Form.{Form}
use Rattle.step.specs.declared.forms.Form.TheVariants.{Two, Address, Quick, One, Shift, Bit, Chk}
use Rattle.step.specs.declared.forms.Step.{Step}
use Rattle.step.specs.Operations.{Row, operation_of}
use Rattle.step.proofs.Operations.{each_row}
use Rattle.recipes.specs.declared.types.Recipe.{Recipe}
use Rattle.recipes.specs.declared.types.Refused.{Refused}
use Rattle.recipes.specs.declared.types.Listing.{Listing}
use Rattle.text.specs.Text.{ascii, decimal_of}
use Rattle.recipes.specs.Recipe.{number_of}
use Rattle.recipes.specs.Reader.{read_of}
use Rattle.recipes.specs.Listing.{steps_max, clocks_of, array_of}
use Rattle.recipes.specs.Printer.{print_max, operation_text, size_text, register_text, count_text, source_text, destination_text, step_text, steps_text, listing_text, refusal_text, listing_printed, printed_of, reading_printed, answer_of}
use Rattle.text.proofs.Values.{decimal_short}
use Rattle.recipes.proofs.Settling.{blanks_count}

-- ---- parts of a line

-- each name of the table has at most four letters
name_short : ℕ → Row → Bool
name_short k r = leb (length (ascii r.name)) 4

operation_short : (f : Form) → length (operation_text f) ≤ 4
unfolding name_short
operation_short f = leb-true (length (operation_text f)) 4 (each_row name_short refl (operation_of f))

size_short : (s : Size) → length (size_text s) ≤ 1
size_short Byte = omega arith
size_short Word = omega arith
size_short Long = omega arith

-- a mark and a number
marked_short : (mark n : ℕ) → length (mark ∷ decimal_of n) ≤ 21
marked_short mark n = let h = decimal_short n in omega arith

register_short : (r : Register) → length (register_text r) ≤ 21
register_short (Register.Data r) = marked_short 68 r.0
register_short (Register.Address r) = marked_short 65 r.0

count_short : (k : Count) → length (count_text k) ≤ 21
count_short (Count.Small k) = marked_short 35 k
count_short (Count.Data r) = marked_short 68 r.0

source_short : (f : Form) → length (source_text f) ≤ 21
source_short (Two op p q) = marked_short 68 p.0
source_short (Address op p q) = register_short p
source_short (Quick op k q) = marked_short 35 k
source_short (One op q) = omega arith
source_short (Shift op k q) = count_short k
source_short (Bit op k q) = count_short k
source_short (Chk p q) = marked_short 68 p.0

destination_short : (f : Form) → length (destination_text f) ≤ 21
destination_short (Two op p q) = marked_short 68 q.0
destination_short (Address op p q) = marked_short 65 q.0
destination_short (Quick op k q) = register_short q
destination_short (One op q) = marked_short 68 q.0
destination_short (Shift op k q) = marked_short 68 q.0
destination_short (Bit op k q) = marked_short 68 q.0
destination_short (Chk p q) = marked_short 68 q.0

-- ---- lines and texts

step_short : (p : ℕ) (k : Step) → length (step_text p k) ≤ 93
unfolding step_text
step_short p k =
    let a = decimal_short p in
    let b = operation_short k.form in
    let c = size_short k.size in
    let d = source_short k.form in
    let e = destination_short k.form in
    let f = marked_short 9 k.line in
    rw (length-append, length-append, length-append, length-append, length-append, length-append, length-append, length-append, length-append, length-append) (omega arith)

steps_short : (p : ℕ) (ks : List Step) → length (steps_text p ks) ≤ 93 * length ks
unfolding steps_text
steps_short p [] = omega arith
steps_short p (k ∷ ks) = let a = step_short p k in let b = steps_short (suc p) ks in rw length-append (omega arith)

listing_short : (w : ℕ) (ks : List Step) → length (listing_text w ks) ≤ 76 + 93 * length ks
unfolding listing_text
listing_short w ks =
    let a = marked_short 9 w in
    let b = marked_short 9 (length ks) in
    let c = steps_short 0 ks in
    let d = marked_short 9 (clocks_of ks) in
    rw (length-append, length-append, length-append, length-append, length-append, length-append, length-append) (omega arith)

refusal_short : (k : Refused) → length (refusal_text k) ≤ 71
unfolding refusal_text
refusal_short k =
    let a = marked_short 9 (number_of k.refusal) in
    let b = marked_short 9 k.line in
    let c = marked_short 9 k.column in
    rw (length-append, length-append, length-append, length-append) (omega arith)

printed_short : (r : Recipe) → length (printed_of r) ≤ print_max
unfolding printed_of
printed_short r = go (array_of r) (blanks_count r)
  where
    go : (t : Result Listing Refused) → ((l : Listing) → t ≡ Ok l → l.count ≤ steps_max) → length (listing_printed r.width t) ≤ print_max
    go (Ok l) few =
        let most = few l refl in
        let many = length-take l.count l.steps in
        let short = listing_short r.width (take l.count l.steps) in
        omega arith
    go (Err k) few = let short = refusal_short k in omega arith

pub answer_short : (text : List ℕ) → length (answer_of text) ≤ print_max
unfolding answer_of
answer_short text = go (read_of text)
  where
    go : (t : Result Recipe Refused) → length (reading_printed t) ≤ print_max
    go (Ok r) = printed_short r
    go (Err k) = let short = refusal_short k in omega arith
