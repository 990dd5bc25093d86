-- A step as one number: a word for a caller in another language. Assumes nothing.
use Rattle.std.specs.Prelude.{ℕ, ◌+◌, ◌*◌, ◌/◌, ◌%◌, ◌^◌, cond, Option, Some, None, option_and_then, unwrap_or, List, map, eqb, take}
use Rattle.alu.specs.declared.types.Size.{Size}
use Rattle.alu.specs.declared.types.Size.TheVariants.{Byte, Word, Long}
use Rattle.calls.specs.Packed.{size_of}
use Rattle.step.specs.declared.forms.Register.{Register}
use Rattle.step.specs.declared.forms.Count.{Count}
use Rattle.step.specs.declared.forms.Form.{Form}
use Rattle.step.specs.declared.forms.Step.{Step}
use Rattle.step.specs.declared.forms.Operation.{Operation}
use Rattle.step.specs.declared.forms.Operation.TheVariants.{Two, Address, Quick, QuickAddress, One, Shift, Bit, Chk}
use Rattle.step.specs.Operations.{operation_at, operation_number, operation_of}
use Rattle.step.specs.Run.{array_slots}
use Rattle.step.specs.Lines.{with_line}
use Rattle.recipe_calls.specs.declared.words.Source.{Source}
use Rattle.recipe_calls.specs.declared.words.Source.TheVariants.{Absent, Small, Data}

-- a byte holds a number below this
abbrev pub byte_radix : ℕ
byte_radix = 2 ^ 8

-- byte i of a word, the lowest is 0
abbrev pub byte_of : (i word : ℕ) → ℕ
byte_of i word = word / byte_radix ^ i % byte_radix

-- ---- a step: byte 0 is the operation (step/specs/Operations), 1 the size (0 byte, 1 word, 2 long), 2 the source's kind (0 none, 1 a small number, 2 a
-- data register, 3 an address register), 3 the source's number, 4 the destination's register number, 5 the text line. Byte 3 does not count where the kind
-- is 0. Bytes 6 and 7 are reserved: a caller writes 0 there, as `step_word` does; today they are not read

-- a source by its kind and its number
abbrev pub source_at : (kind s : ℕ) → Option Source
source_at kind s =
    cond (eqb kind 0) (Some Absent)
    (cond (eqb kind 1) (Some (Small s)) (cond (eqb kind 2) (Some (Data (record { 0 = s }))) (cond (eqb kind 3) (Some (Source.Address (record { 0 = s }))) None)))

-- document 01's forms: an operation, a source, and the number t of the destination
abbrev pub made_of : Operation → Source → (t : ℕ) → Option Form
made_of (Two op) (Data p) t = Some (Form.Two op p (record { 0 = t }))
made_of (Address op) (Data p) t = Some (Form.Address op (Register.Data p) (record { 0 = t }))
made_of (Address op) (Source.Address p) t = Some (Form.Address op (Register.Address p) (record { 0 = t }))
made_of (Quick op) (Small k) t = Some (Form.Quick op k (Register.Data (record { 0 = t })))
made_of (QuickAddress op) (Small k) t = Some (Form.Quick op k (Register.Address (record { 0 = t })))
made_of (One op) Absent t = Some (Form.One op (record { 0 = t }))
made_of (Shift op) (Small k) t = Some (Form.Shift op (Count.Small k) (record { 0 = t }))
made_of (Shift op) (Data p) t = Some (Form.Shift op (Count.Data p) (record { 0 = t }))
made_of (Bit op) (Small k) t = Some (Form.Bit op (Count.Small k) (record { 0 = t }))
made_of (Bit op) (Data p) t = Some (Form.Bit op (Count.Data p) (record { 0 = t }))
made_of Chk (Data p) t = Some (Form.Chk p (record { 0 = t }))
made_of o s t = None

-- what a word stands for that names no step: a CHK of a byte, which the machine refuses with 2
abbrev pub no_step : Step
no_step = record { size = Byte; form = Form.Chk (record { 0 = 0 }) (record { 0 = 0 }); line = 0 }

infixl 10 ◌>>=◌
abbrev pub ◌>>=◌ : {A B : Type 0} → Option A → (A → Option B) → Option B
o >>= f = option_and_then f o

-- the step that a word names, without its line, if it names one
unfoldable pub named : (word : ℕ) → Option Step
named word = do
  operation ← operation_at (byte_of 0 word)
  source ← source_at (byte_of 2 word) (byte_of 3 word)
  form ← made_of operation source (byte_of 4 word)
  size ← size_of (byte_of 1 word)
  Some (record { size = size; form = form; line = 0 })

abbrev pub bare_of : (word : ℕ) → Step
bare_of word = unwrap_or (named word) no_step

-- and with it, byte 5. A word that names no step has its line too, so that the refusal tells it
abbrev pub step_of : (word : ℕ) → Step
step_of word = with_line (byte_of 5 word) (bare_of word)

-- the steps of a listing in words: as many as an array holds
abbrev pub first_of : List ℕ → List Step
first_of listing = map step_of (take array_slots listing)

-- ---- the word of a step (`word_names` of proofs/Round: it names that step)

abbrev pub size_number : Size → ℕ
size_number Byte = 0
size_number Word = 1
size_number Long = 2

abbrev pub register_number : Register → ℕ
register_number (Register.Data r) = r.0
register_number (Register.Address r) = r.0

abbrev pub of_register : Register → Source
of_register (Register.Data r) = Data r
of_register (Register.Address r) = Source.Address r

abbrev pub of_count : Count → Source
of_count (Count.Small k) = Small k
of_count (Count.Data r) = Data r

abbrev pub source_of : Form → Source
source_of (Form.Two op p q) = Data p
source_of (Form.Address op p q) = of_register p
source_of (Form.Quick op k q) = Small k
source_of (Form.One op q) = Absent
source_of (Form.Shift op k q) = of_count k
source_of (Form.Bit op k q) = of_count k
source_of (Form.Chk p q) = Data p

abbrev pub kind_of : Source → ℕ
kind_of Absent = 0
kind_of (Small k) = 1
kind_of (Data r) = 2
kind_of (Source.Address r) = 3

abbrev pub number_in : Source → ℕ
number_in Absent = 0
number_in (Small k) = k
number_in (Data r) = r.0
number_in (Source.Address r) = r.0

abbrev pub source_kind : Form → ℕ
source_kind form = kind_of (source_of form)

abbrev pub source_number : Form → ℕ
source_number form = number_in (source_of form)

abbrev pub destination_number : Form → ℕ
destination_number (Form.Two op p q) = q.0
destination_number (Form.Address op p q) = q.0
destination_number (Form.Quick op k q) = register_number q
destination_number (Form.One op q) = q.0
destination_number (Form.Shift op k q) = q.0
destination_number (Form.Bit op k q) = q.0
destination_number (Form.Chk p q) = q.0

unfoldable pub step_word : Step → ℕ
step_word k =
    operation_number (operation_of k.form) + size_number k.size * byte_radix ^ 1 + source_kind k.form * byte_radix ^ 2 + source_number k.form * byte_radix ^ 3
    + destination_number k.form * byte_radix ^ 4 + k.line * byte_radix ^ 5
