-- What the ruling of a step means. A step that is sound is never refused by its operation (`never_refused`), so that no refused answer is ever taken
-- for a result. A step is refused with document 01's number 3, 2 or 1, in that order, exactly where a test fails (`perform_number`). It traps with the
-- class of the crate alu exactly where it is a sound CHK that doesn't pass (`perform_class`). A refused step changes nothing
-- (`perform_kept`) and has the figure 0 (`refused_free`), and none is refused as a run is that starts past the end (`never_past`). A write at a size, over the size's bits (`merged_bits`) and by its mask (`merged_mask`). Assumes nothing.
use Rattle.std.proofs.Common.{◌≡◌, ℕ, ◌+◌, ◌-◌, ◌*◌, ◌/◌, ◌%◌, ◌^◌, ◌<◌, ◌≤◌, Bool, true, false, cond, ◌&&◌, leb, sym, refl, ap, ◌∙◌, ap₂, mod-lt, arith, pow_pos, le-ltb, leb-true}
use lib.Bits.{bit_and, bit_or, and_mask, and_high, or_shifted}
use Rattle.alu.specs.declared.types.Size.{Size}
use Rattle.alu.specs.declared.types.Size.TheVariants.{Byte, Word, Long}
use Rattle.alu.specs.declared.types.Flags.{Flags}
use Rattle.alu.specs.declared.types.Verdict.TheVariants.{Accepted}
use Rattle.alu.specs.declared.types.Answer.{Answer}
use Rattle.alu.specs.declared.types.Check.{Check}
use Rattle.alu.specs.declared.types.Check.TheVariants.{Pass, Over, Short, Below}
use Rattle.alu.specs.declared.shift_rotate.ShiftOp.{ShiftOp}
use Rattle.alu.specs.declared.shift_rotate.ShiftOp.TheVariants.{Asl, Asr, Lsl, Lsr, Rol, Ror, Roxl, Roxr}
use Rattle.alu.specs.declared.bit_manip.BitOp.{BitOp}
use Rattle.alu.specs.Bits.{bits_of, low, join, width_of}
use Rattle.alu.specs.Answers.{class_of as checkClass}
use Rattle.alu.specs.Arith.{chk_of}
use Rattle.alu.specs.Shifts.{shift_of}
use Rattle.alu.specs.Bitops.{bitop_of}
use Rattle.step.specs.declared.registers.State.{State}
use Rattle.step.specs.declared.forms.TwoOp.{TwoOp}
use Rattle.step.specs.declared.forms.TwoOp.TheVariants.{Add, Sub, Cmp, Addx, Subx}
use Rattle.step.specs.declared.forms.AddressOp.{AddressOp}
use Rattle.step.specs.declared.forms.AddressOp.TheVariants.{Adda, Suba, Cmpa}
use Rattle.step.specs.declared.forms.QuickOp.{QuickOp}
use Rattle.step.specs.declared.forms.QuickOp.TheVariants.{Addq, Subq}
use Rattle.step.specs.declared.forms.OneOp.{OneOp}
use Rattle.step.specs.declared.forms.OneOp.TheVariants.{Clr, Neg, Negx, Not, Ext}
use Rattle.step.specs.declared.forms.Register.TheVariants as Register
use Rattle.step.specs.declared.forms.Count.{Count}
use Rattle.step.specs.declared.forms.Form.{Form}
use Rattle.step.specs.declared.forms.Form.TheVariants.{Two, Address, Quick, One, Shift, Bit, Chk}
use Rattle.step.specs.declared.forms.Step.{Step}
use Rattle.step.specs.declared.steps.Fault.{Fault}
use Rattle.step.specs.declared.steps.Fault.TheVariants.{BadSmall, NoSuchSize, NoSuchRegister, StartPastEnd}
use Rattle.step.specs.declared.steps.Outcome.TheVariants.{Refused}
use Rattle.step.specs.Registers.{data_of, address_of, merged_of}
use Rattle.step.specs.Perform.{Ruling, Sound, Faulty, number_of, refusal_of, there, register_there, count_there, within, count_within, not_byte, is_word, is_long, quick_size, one_size, ruling_of}
use Rattle.step.specs.Perform.{two_of, on_address_of, quick_of, quick_address_of, one_of, register_value, count_value, outcome_of, figure_in, act_of, judged, perform_form, perform_of, refused_with, trapped_with}
use Rattle.step.proofs.Laws.{no}

-- ---- the number of a ruling

abbrev ruled_with : Ruling → ℕ
ruled_with Sound = 0
ruled_with (Faulty fault) = number_of fault

refusal_number : (registers size small : Bool) → ruled_with (refusal_of registers size small) ≡ cond registers (cond size (cond small 0 1) 2) 3
refusal_number false size small = refl
refusal_number true false small = refl
refusal_number true true false = refl
refusal_number true true true = refl

outcome_number : (check : Check) → refused_with (outcome_of check) ≡ 0
outcome_number Pass = refl
outcome_number Over = refl
outcome_number Short = refl
outcome_number Below = refl

act_number : (s : State) (size : Size) (form : Form) → refused_with (act_of s size form).outcome ≡ 0
act_number s size (Two op r t) = refl
act_number s size (Address op r t) = refl
act_number s size (Quick op k (Register.Data t)) = refl
act_number s size (Quick op k (Register.Address t)) = refl
act_number s size (One op t) = refl
act_number s size (Shift op c t) = refl
act_number s size (Bit op c t) = refl
act_number s size (Chk r t) = outcome_number (chk_of size (data_of s r) (data_of s t) s.flags).check

judged_number : (ruling : Ruling) (s : State) (size : Size) (form : Form) → refused_with (judged ruling s (act_of s size form)).outcome ≡ ruled_with ruling
judged_number Sound s size form = act_number s size form
judged_number (Faulty fault) s size form = refl

-- the tests of each form, by what they look at
unfoldable pub registers_of : Form → Bool
registers_of (Two op r t) = there r.0 && there t.0
registers_of (Address op r t) = register_there r && there t.0
registers_of (Quick op k t) = register_there t
registers_of (One op t) = there t.0
registers_of (Shift op c t) = count_there c && there t.0
registers_of (Bit op c t) = count_there c && there t.0
registers_of (Chk r t) = there r.0 && there t.0

unfoldable pub size_of : Size → Form → Bool
size_of size (Two op r t) = true
size_of size (Address op r t) = not_byte size
size_of size (Quick op k t) = quick_size t size
size_of size (One op t) = one_size op size
size_of size (Shift op c t) = true
size_of size (Bit op c t) = is_long size
size_of size (Chk r t) = is_word size

unfoldable pub small_of : Form → Bool
small_of (Two op r t) = true
small_of (Address op r t) = true
small_of (Quick op k t) = within 1 8 k
small_of (One op t) = true
small_of (Shift op c t) = count_within 1 8 c
small_of (Bit op c t) = count_within 0 31 c
small_of (Chk r t) = true

ruling_is : (size : Size) (form : Form) → ruling_of size form ≡ refusal_of (registers_of form) (size_of size form) (small_of form)
unfolding registers_of size_of small_of
ruling_is size (Two op r t) = refl
ruling_is size (Address op r t) = refl
ruling_is size (Quick op k t) = refl
ruling_is size (One op t) = refl
ruling_is size (Shift op c t) = refl
ruling_is size (Bit op c t) = refl
ruling_is size (Chk r t) = refl

-- 3 where a register is not there, else 2 where the form hasn't that size, else 1 where a small number is out of range, else not refused
pub perform_number : (s : State) (size : Size) (form : Form)
    → refused_with (perform_form s size form).outcome ≡ cond (registers_of form) (cond (size_of size form) (cond (small_of form) 0 1) 2) 3
perform_number s size form =
    judged_number (ruling_of size form) s size form ∙ (ap ruled_with (ruling_is size form) ∙ refusal_number (registers_of form) (size_of size form) (small_of form))

-- ---- the class of a trap

-- what CHK finds; no other form checks anything
abbrev pub check_in : State → Size → Form → Check
check_in s size (Two op r t) = Pass
check_in s size (Address op r t) = Pass
check_in s size (Quick op k t) = Pass
check_in s size (One op t) = Pass
check_in s size (Shift op c t) = Pass
check_in s size (Bit op c t) = Pass
check_in s size (Chk r t) = (chk_of size (data_of s r) (data_of s t) s.flags).check

outcome_class : (check : Check) → trapped_with (outcome_of check) ≡ checkClass check
outcome_class Pass = refl
outcome_class Over = refl
outcome_class Short = refl
outcome_class Below = refl

act_class : (s : State) (size : Size) (form : Form) → trapped_with (act_of s size form).outcome ≡ checkClass (check_in s size form)
act_class s size (Two op r t) = refl
act_class s size (Address op r t) = refl
act_class s size (Quick op k (Register.Data t)) = refl
act_class s size (Quick op k (Register.Address t)) = refl
act_class s size (One op t) = refl
act_class s size (Shift op c t) = refl
act_class s size (Bit op c t) = refl
act_class s size (Chk r t) = outcome_class (chk_of size (data_of s r) (data_of s t) s.flags).check

judged_class : (registers size small : Bool) (s : State) (k : Size) (form : Form)
    → trapped_with (judged (refusal_of registers size small) s (act_of s k form)).outcome ≡ cond (registers && size && small) (checkClass (check_in s k form)) 0
judged_class false size small s k form = refl
judged_class true false small s k form = refl
judged_class true true false s k form = refl
judged_class true true true s k form = act_class s k form

-- where every test is passed the class of what CHK finds, 0 for Pass and for every other form; a refused step doesn't trap
pub perform_class : (s : State) (size : Size) (form : Form)
    → trapped_with (perform_form s size form).outcome ≡ cond (registers_of form && size_of size form && small_of form) (checkClass (check_in s size form)) 0
perform_class s size form = rw (ruling_is size form) (judged_class (registers_of form) (size_of size form) (small_of form) s size form)

-- ---- a refused step changes nothing and counts no clocks

judged_kept : (ruling : Ruling) (s : State) (size : Size) (form : Form) → (refused_with (judged ruling s (act_of s size form)).outcome ≡ 0 → ⊥)
    → let w = judged ruling s (act_of s size form) in (w.state ≡ s) × (w.clocks ≡ 0)
judged_kept Sound s size form h = absurd (h (act_number s size form))
judged_kept (Faulty fault) s size form h = (refl, refl)

pub perform_kept : (s : State) (size : Size) (form : Form) → (refused_with (perform_form s size form).outcome ≡ 0 → ⊥)
    → ((perform_form s size form).state ≡ s) × ((perform_form s size form).clocks ≡ 0)
perform_kept s size form = judged_kept (ruling_of size form) s size form

-- no refusal has the number 0
numbered : (x : Fault) → number_of x ≡ 0 → ⊥
numbered BadSmall e = omega (arith, e)
numbered NoSuchSize e = omega (arith, e)
numbered NoSuchRegister e = omega (arith, e)
numbered StartPastEnd e = omega (arith, e)

pub refused_free : (s : State) (k : Step) (x : Fault) → (perform_of s k).outcome ≡ Refused x → (perform_of s k).clocks ≡ 0
refused_free s k x e = (perform_kept s k.size k.form (λ none. numbered x (sym (ap refused_with e) ∙ none))).1

-- a step is refused with 3, 2 or 1: never with 10, which is a run's
three_tests : (a b c : Bool) → cond a (cond b (cond c 0 1) 2) 3 ≤ 3
three_tests false b c = omega arith
three_tests true false c = omega arith
three_tests true true false = omega arith
three_tests true true true = omega arith

pub never_past : (s : State) (k : Step) → (perform_of s k).outcome ≡ Refused StartPastEnd → ⊥
never_past s k e =
    let tests = three_tests (registers_of k.form) (size_of k.size k.form) (small_of k.form) in
    let ten : ◌≡◌ {A = ℕ} 10 (cond (registers_of k.form) (cond (size_of k.size k.form) (cond (small_of k.form) 0 1) 2) 3) = sym (ap refused_with e) ∙ perform_number s k.size k.form in
    omega (arith, tests, ten)

-- ---- a sound step's operation is not refused

-- the answer that a step's operation gives
abbrev pub answer_in : State → Size → Form → Answer
answer_in s size (Two op r t) = two_of op size (data_of s r) (data_of s t) s.flags
answer_in s size (Address op r t) = on_address_of op size (register_value s r) (address_of s t) s.flags
answer_in s size (Quick op k (Register.Data t)) = quick_of op size k (data_of s t) s.flags
answer_in s size (Quick op k (Register.Address t)) = quick_address_of op size k (address_of s t) s.flags
answer_in s size (One op t) = one_of op size (data_of s t) s.flags
answer_in s size (Shift op c t) = shift_of op size (count_value s 64 c) (data_of s t) s.flags
answer_in s size (Bit op c t) = bitop_of op size (count_value s 32 c) (data_of s t) s.flags
answer_in s size (Chk r t) = (chk_of size (data_of s r) (data_of s t) s.flags).answer

-- its flags are the step's, and the step's figure comes of its figure
pub act_answers : (s : State) (size : Size) (form : Form)
    → ((act_of s size form).state.flags ≡ (answer_in s size form).flags) × ((act_of s size form).clocks ≡ figure_in s size form (answer_in s size form).clocks)
act_answers s size (Two op r t) = (refl, refl)
act_answers s size (Address op r t) = (refl, refl)
act_answers s size (Quick op k (Register.Data t)) = (refl, refl)
act_answers s size (Quick op k (Register.Address t)) = (refl, refl)
act_answers s size (One op t) = (refl, refl)
act_answers s size (Shift op c t) = (refl, refl)
act_answers s size (Bit op c t) = (refl, refl)
act_answers s size (Chk r t) = (refl, refl)

-- what passed: the second and the third test
pub passed : (a b c : Bool) → refusal_of a b c ≡ Sound → (b ≡ true) × (c ≡ true)
passed false b c e = let none : ◌≡◌ {A = ℕ} 3 0 = ap ruled_with e in absurd (omega arith)
passed true false c e = let none : ◌≡◌ {A = ℕ} 2 0 = ap ruled_with e in absurd (omega arith)
passed true true false e = let none : ◌≡◌ {A = ℕ} 1 0 = ap ruled_with e in absurd (omega arith)
passed true true true e = (refl, refl)

both_right : (a b : Bool) → (a && b) ≡ true → b ≡ true
both_right true b e = e
both_right false b e = no e

count_few : (s : State) (c : Count) → count_within 1 8 c ≡ true → count_value s 64 c ≤ 63
count_few s (Count.Small k) e = omega (arith, leb-true k 8 (both_right (leb 1 k) (leb k 8) e))
count_few s (Count.Data r) e = let h : data_of s r % 64 < 64 = mod-lt (data_of s r) (omega arith) in omega (arith, h)

two_accepted : (op : TwoOp) (size : Size) (s d : ℕ) (f : Flags) → (two_of op size s d f).verdict ≡ Accepted
two_accepted Add size s d f = refl
two_accepted Sub size s d f = refl
two_accepted Cmp size s d f = refl
two_accepted Addx size s d f = refl
two_accepted Subx size s d f = refl

address_accepted : (op : AddressOp) (size : Size) (s d : ℕ) (f : Flags) → not_byte size ≡ true → (on_address_of op size s d f).verdict ≡ Accepted
address_accepted op Byte s d f e = no e
address_accepted Adda Word s d f e = refl
address_accepted Adda Long s d f e = refl
address_accepted Suba Word s d f e = refl
address_accepted Suba Long s d f e = refl
address_accepted Cmpa Word s d f e = refl
address_accepted Cmpa Long s d f e = refl

quick_accepted : (op : QuickOp) (size : Size) (s d : ℕ) (f : Flags) → (quick_of op size s d f).verdict ≡ Accepted
quick_accepted Addq size s d f = refl
quick_accepted Subq size s d f = refl

quick_address_accepted : (op : QuickOp) (size : Size) (s d : ℕ) (f : Flags) → not_byte size ≡ true → (quick_address_of op size s d f).verdict ≡ Accepted
quick_address_accepted op Byte s d f e = no e
quick_address_accepted Addq Word s d f e = refl
quick_address_accepted Addq Long s d f e = refl
quick_address_accepted Subq Word s d f e = refl
quick_address_accepted Subq Long s d f e = refl

one_accepted : (op : OneOp) (size : Size) (d : ℕ) (f : Flags) → one_size op size ≡ true → (one_of op size d f).verdict ≡ Accepted
one_accepted Clr size d f e = refl
one_accepted Neg size d f e = refl
one_accepted Negx size d f e = refl
one_accepted Not size d f e = refl
one_accepted Ext Byte d f e = no e
one_accepted Ext Word d f e = refl
one_accepted Ext Long d f e = refl

shift_accepted : (op : ShiftOp) (size : Size) (count d : ℕ) (f : Flags) → count ≤ 63 → (shift_of op size count d f).verdict ≡ Accepted
unfolding shift_of
shift_accepted Asl size count d f h = refl
shift_accepted Asr size count d f h = refl
shift_accepted Lsl size count d f h = refl
shift_accepted Lsr size count d f h = refl
shift_accepted Rol size count d f h = refl
shift_accepted Ror size count d f h = refl
shift_accepted Roxl size count d f h = rw (le-ltb 63 count h)
shift_accepted Roxr size count d f h = rw (le-ltb 63 count h)

bit_accepted : (op : BitOp) (size : Size) (k d : ℕ) (f : Flags) → is_long size ≡ true → (bitop_of op size k d f).verdict ≡ Accepted
unfolding bitop_of
bit_accepted op Byte k d f e = no e
bit_accepted op Word k d f e = no e
bit_accepted op Long k d f e = refl

chk_accepted : (size : Size) (bound value : ℕ) (f : Flags) → is_word size ≡ true → (chk_of size bound value f).answer.verdict ≡ Accepted
chk_accepted Byte bound value f e = no e
chk_accepted Word bound value f e = refl
chk_accepted Long bound value f e = no e

pub never_refused : (s : State) (size : Size) (form : Form) → ruling_of size form ≡ Sound → (answer_in s size form).verdict ≡ Accepted
never_refused s size (Two op r t) e = two_accepted op size (data_of s r) (data_of s t) s.flags
never_refused s size (Address op r t) e = address_accepted op size (register_value s r) (address_of s t) s.flags (passed (register_there r && there t.0) (not_byte size) true e).0
never_refused s size (Quick op k (Register.Data t)) e = quick_accepted op size k (data_of s t) s.flags
never_refused s size (Quick op k (Register.Address t)) e = quick_address_accepted op size k (address_of s t) s.flags (passed (there t.0) (not_byte size) (within 1 8 k) e).0
never_refused s size (One op t) e = one_accepted op size (data_of s t) s.flags (passed (there t.0) (one_size op size) true e).0
never_refused s size (Shift op c t) e = shift_accepted op size (count_value s 64 c) (data_of s t) s.flags (count_few s c (passed (count_there c && there t.0) true (count_within 1 8 c) e).1)
never_refused s size (Bit op c t) e = bit_accepted op size (count_value s 32 c) (data_of s t) s.flags (passed (count_there c && there t.0) (is_long size) (count_within 0 31 c) e).0
never_refused s size (Chk r t) e = chk_accepted size (data_of s r) (data_of s t) s.flags (passed (there r.0 && there t.0) (is_word size) true e).0

-- ---- a write

-- the low bits, as many as the size has, are the value's; those above are kept. A long has none above
pub merged_bits : (size : Size) (old value : ℕ) → old < 2 ^ 32 → value < 2 ^ 32 → let n = bits_of size in merged_of size old value ≡ join n (low n value) (old / 2 ^ n)
merged_bits Byte old value h l = refl
merged_bits Word old value h l = refl
merged_bits Long old value h l = omega arith

-- `old` without its low n bits, and the low n bits of `value`
high_low : (j n old value : ℕ) → bit_or (bit_and old (2 ^ (j + n) - 2 ^ n)) (bit_and value (2 ^ n - 1)) ≡ old / 2 ^ n % 2 ^ j * 2 ^ n + value % 2 ^ n
high_low j n old value = ap₂ bit_or (and_high old j n) (and_mask value n) ∙ or_shifted (old / 2 ^ n % 2 ^ j) n (value % 2 ^ n) (mod-lt value (pow_pos n))

-- so a write at a size is done by the size's mask
pub merged_mask : (size : Size) (old value : ℕ) → old < 2 ^ 32 → value < 2 ^ 32 → let mask = (width_of (bits_of size)).mask in bit_or (bit_and old (2 ^ 32 - 1 - mask)) (bit_and value mask) ≡ merged_of size old value
merged_mask Byte old value h l = high_low 24 8 old value ∙ omega arith
merged_mask Word old value h l = high_low 16 16 old value ∙ omega arith
merged_mask Long old value h l = high_low 0 32 old value ∙ omega arith
