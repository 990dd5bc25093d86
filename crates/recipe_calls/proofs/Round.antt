-- Words there and back: the word of a step names that step, and so a listing that is handed out in words is run as it was made. Assumes nothing.
--     word_names, words_name   a step, and a listing of at most `array_slots`
use Prim.Native.Nat.{ℕ, zero, suc, ◌<◌, ◌≤◌}
use mathlib.Core.Path.{◌≡◌, refl, ap, ◌∙◌}
use mathlib.Core.List.{List, [], ◌∷◌, map}
use lib.Dec.{lit<}
use native.Mathlib.Omega.{arith}
use lib.ListN.{length, get_or, length-map}
use lib.Seq.{take_all}
use Rattle.std.specs.Int.{w64, to_le_bytes}
use Rattle.std.specs.Prelude.{Some}
use Rattle.std.proofs.lemmas.Nat.{le_bytes_8}
use Rattle.alu.specs.declared.types.Size.{Size}
use Rattle.alu.specs.declared.types.Size.TheVariants.{Byte, Word, Long}
use Rattle.calls.specs.Packed.{size_of}
use Rattle.step.specs.declared.forms.Register.TheVariants as Register
use Rattle.step.specs.declared.forms.Count.TheVariants as Count
use Rattle.step.specs.declared.forms.Form.{Form}
use Rattle.step.specs.declared.forms.Step.{Step}
use Rattle.step.specs.declared.forms.Operation.{Operation}
use Rattle.step.specs.Operations.{operation_number, operation_of}
use Rattle.step.proofs.Operations.{stands}
use Rattle.step.specs.Run.{array_slots}
use Rattle.recipe_calls.specs.declared.words.Source.{Source}
use Rattle.recipe_calls.specs.declared.words.Source.TheVariants.{Absent, Small, Data}
use Rattle.recipe_calls.specs.Words.{byte_radix, source_at, made_of, named, step_of, first_of, step_word}
use Rattle.recipe_calls.specs.Words.{size_number, source_of, kind_of, number_in, source_kind, source_number, destination_number}
use Rattle.recipe_calls.proofs.Naming.{low}

-- ---- what the bytes of a step's word name

form_found : (form : Form) → made_of (operation_of form) (source_of form) (destination_number form) ≡ Some form
form_found (Form.Two op p q) = refl
form_found (Form.Address op (Register.Data p) q) = refl
form_found (Form.Address op (Register.Address p) q) = refl
form_found (Form.Quick op k (Register.Data q)) = refl
form_found (Form.Quick op k (Register.Address q)) = refl
form_found (Form.One op q) = refl
form_found (Form.Shift op (Count.Small k) q) = refl
form_found (Form.Shift op (Count.Data k) q) = refl
form_found (Form.Bit op (Count.Small k) q) = refl
form_found (Form.Bit op (Count.Data k) q) = refl
form_found (Form.Chk p q) = refl

source_found : (s : Source) → source_at (kind_of s) (number_in s) ≡ Some s
source_found Absent = refl
source_found (Small k) = refl
source_found (Data p) = refl
source_found (Source.Address p) = refl

size_found : (size : Size) → size_of (size_number size) ≡ Some size
size_found Byte = refl
size_found Word = refl
size_found Long = refl

-- ---- the three bytes that are no operand's number

operation_small : (o : Operation) → operation_number o < byte_radix
operation_small o = omega (arith, (stands o).0)

kind_small : (s : Source) → kind_of s < byte_radix
kind_small Absent = lit< tt
kind_small (Small k) = lit< tt
kind_small (Data p) = lit< tt
kind_small (Source.Address p) = lit< tt

size_small : (size : Size) → size_number size < byte_radix
size_small Byte = lit< tt
size_small Word = lit< tt
size_small Long = lit< tt

-- ---- steps

-- the operands' numbers and the line are bytes: every step of the code has them so
pub record Bytes (k : Step) : Type 0 where
  pub source : source_number k.form < byte_radix
  pub destination : destination_number k.form < byte_radix
  pub line : k.line < byte_radix

abbrev bytes_of : Step → List ℕ
bytes_of k =
    operation_number (operation_of k.form) ∷ size_number k.size ∷ source_kind k.form ∷ source_number k.form ∷ destination_number k.form ∷ k.line ∷ 0 ∷ 0 ∷ []

abbrev AllSmall : List ℕ → Type 0
AllSmall [] = Unit {0}
AllSmall (b ∷ bs) = (b < byte_radix) × AllSmall bs

small_at : (bs : List ℕ) → AllSmall bs → (i : ℕ) → get_or bs i 0 < byte_radix
small_at [] h i = lit< tt
small_at (b ∷ bs) h zero = h.0
small_at (b ∷ bs) h (suc i) = small_at bs h.1 i

all_small : (k : Step) → Bytes k → AllSmall (bytes_of k)
all_small k h =
    (operation_small (operation_of k.form), (size_small k.size, (kind_small (source_of k.form), (h.source, (h.destination, (h.line, (lit< tt, (lit< tt, tt))))))))

-- what stands in a byte comes out of it
bytes_found : (k : Step) → Bytes k → to_le_bytes w64 (step_word k) ≡ bytes_of k
unfolding step_word
bytes_found k h = le_bytes_8 (bytes_of k) (step_word k) refl (small_at (bytes_of k) (all_small k h)) (omega arith)

named_found : (k : Step) → Bytes k → named (step_word k) ≡ Some (record { size = k.size; form = k.form; line = 0 })
unfolding named
named_found k h =
    let w = step_word k in
    let b : (i : ℕ) → get_or (to_le_bytes w64 w) i 0 ≡ get_or (bytes_of k) i 0 = λ i. ap (λ (bs : List ℕ). get_or bs i 0) (bytes_found k h) in
    rw (low w ∙ b 0, b 1, b 2, b 3, b 4, (stands (operation_of k.form)).1, source_found (source_of k.form), form_found k.form, size_found k.size)

pub word_names : (k : Step) → Bytes k → step_of (step_word k) ≡ k
word_names k h = rw (named_found k h, ap (λ (bs : List ℕ). get_or bs 5 0) (bytes_found k h))

-- a listing's steps
abbrev pub AllBytes : List Step → Type 0
AllBytes [] = Unit {0}
AllBytes (k ∷ ks) = Bytes k × AllBytes ks

map_names : (l : List Step) → AllBytes l → map step_of (map step_word l) ≡ l
map_names [] h = refl
map_names (k ∷ ks) h = rw (word_names k h.0, map_names ks h.1)

pub words_name : (l : List Step) → AllBytes l → length l ≤ array_slots → first_of (map step_word l) ≡ l
words_name l h few = let all : length (map step_word l) ≤ array_slots = rw (length-map l step_word) few in rw (take_all array_slots (map step_word l) all) (map_names l h)
