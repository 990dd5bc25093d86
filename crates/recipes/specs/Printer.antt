-- What is printed, as lists of bytes: document 01, the end of "Refusal numbers", with document 02, items 1 and 4. Assumes nothing.
use Rattle.std.specs.Prelude.{ℕ, suc, Result, Ok, Err, List, [], ◌∷◌, ◌++◌, length, take}
use Rattle.alu.specs.declared.types.Size.{Size}
use Rattle.alu.specs.declared.types.Size.TheVariants.{Byte, Word, Long}
use Rattle.step.specs.declared.forms.Register.{Register}
use Rattle.step.specs.declared.forms.Count.{Count}
use Rattle.step.specs.declared.forms.Form.{Form}
use Rattle.step.specs.declared.forms.Form.TheVariants.{Two, Address, Quick, One, Shift, Bit, Chk}
use Rattle.step.specs.declared.forms.Step.{Step}
use Rattle.step.specs.Operations.{operation_name, operation_of}
use Rattle.recipes.specs.declared.types.Recipe.{Recipe}
use Rattle.recipes.specs.declared.types.Refused.{Refused}
use Rattle.recipes.specs.declared.types.Listing.{Listing}
use Rattle.text.specs.Text.{ascii, decimal_of}
use Rattle.recipes.specs.Recipe.{number_of}
use Rattle.recipes.specs.Reader.{read_of}
use Rattle.recipes.specs.Listing.{clocks_of, array_of}

abbrev pub tab : List ℕ
tab = 9 ∷ []

abbrev pub newline : List ℕ
newline = 10 ∷ []

-- a tab and a number
abbrev pub field_of : ℕ → List ℕ
field_of n = 9 ∷ decimal_of n

-- ---- operations and sizes

abbrev pub operation_text : Form → List ℕ
operation_text form = ascii (operation_name (operation_of form))

abbrev pub size_text : Size → List ℕ
size_text Byte = ascii "B"
size_text Word = ascii "W"
size_text Long = ascii "L"

-- ---- operands: D (68) or A (65) and the register's number, # (35) and a small number, or - where there is no source

abbrev pub data_text : ℕ → List ℕ
data_text r = 68 ∷ decimal_of r

abbrev pub address_text : ℕ → List ℕ
address_text r = 65 ∷ decimal_of r

abbrev pub small_text : ℕ → List ℕ
small_text k = 35 ∷ decimal_of k

abbrev pub register_text : Register → List ℕ
register_text (Register.Data r) = data_text r.0
register_text (Register.Address r) = address_text r.0

abbrev pub count_text : Count → List ℕ
count_text (Count.Small k) = small_text k
count_text (Count.Data r) = data_text r.0

abbrev pub source_text : Form → List ℕ
source_text (Two op p q) = data_text p.0
source_text (Address op p q) = register_text p
source_text (Quick op k q) = small_text k
source_text (One op q) = ascii "-"
source_text (Shift op k q) = count_text k
source_text (Bit op k q) = count_text k
source_text (Chk p q) = data_text p.0

abbrev pub destination_text : Form → List ℕ
destination_text (Two op p q) = data_text q.0
destination_text (Address op p q) = address_text q.0
destination_text (Quick op k q) = register_text q
destination_text (One op q) = data_text q.0
destination_text (Shift op k q) = data_text q.0
destination_text (Bit op k q) = data_text q.0
destination_text (Chk p q) = data_text q.0

-- ---- a listing

-- a step: place, operation, size letter, source, destination, text line (document 02, item 4)
unfoldable pub step_text : (place : ℕ) → Step → List ℕ
step_text place k =
    decimal_of place ++ (tab ++ (operation_text k.form ++ (tab ++ (size_text k.size ++
    (tab ++ (source_text k.form ++ (tab ++ (destination_text k.form ++ (field_of k.line ++ newline)))))))))

-- the steps from this place on
unfoldable pub steps_text : (place : ℕ) → List Step → List ℕ
steps_text place [] = []
steps_text place (k ∷ ks) = step_text place k ++ steps_text (suc place) ks

-- `width`, w and the number of steps; the steps; `clocks` and the sum of their figures
unfoldable pub listing_text : (w : ℕ) → List Step → List ℕ
listing_text w steps =
    ascii "width" ++ (field_of w ++ (field_of (length steps) ++ (newline ++
    (steps_text 0 steps ++ (ascii "clocks" ++ (field_of (clocks_of steps) ++ newline))))))

-- ---- a refusal, and answers

-- `refused`, its number, its line and its column
unfoldable pub refusal_text : Refused → List ℕ
refusal_text k = ascii "refused" ++ (field_of (number_of k.refusal) ++ (field_of k.line ++ (field_of k.column ++ newline)))

abbrev pub listing_printed : (w : ℕ) → Result Listing Refused → List ℕ
listing_printed w (Ok l) = listing_text w (take l.count l.steps)
listing_printed w (Err k) = refusal_text k

-- a recipe's listing, made in an array, or its refusal
unfoldable pub printed_of : Recipe → List ℕ
printed_of r = listing_printed r.width (array_of r)

abbrev pub reading_printed : Result Recipe Refused → List ℕ
reading_printed (Ok r) = printed_of r
reading_printed (Err k) = refusal_text k

-- what the program prints for the text that it read
unfoldable pub answer_of : List ℕ → List ℕ
answer_of text = reading_printed (read_of text)

-- the bytes that the program reads of a text, which are its text (`cut_line`, `cut_reads` and `cut_slips` of proofs/Cut: how far they are answered as the
-- whole), and its room for an answer, our own number (`answer_short` of proofs/Room: none is longer)
abbrev pub text_max : ℕ
text_max = 1024

abbrev pub print_max : ℕ
print_max = 24576
