-- One step: it is refused, or it reads its operands, and writes a register and the flags (CHK: the flags alone). Document 01, "Steps and runs", its
-- forms table and its refusal numbers; six clock figures by document 02, item 3. The operations' answers are those of the crate alu. s is the state
-- before; of a form, r is the source register and t the destination. Assumes nothing.
use Rattle.std.specs.Prelude.{ℕ, ◌%◌, Bool, true, false, cond, ◌&&◌, nat_le, nat_lt}
use Rattle.alu.specs.declared.types.Size.{Size}
use Rattle.alu.specs.declared.types.Size.TheVariants.{Byte, Word, Long}
use Rattle.alu.specs.declared.types.Flags.{Flags}
use Rattle.alu.specs.declared.types.Answer.{Answer}
use Rattle.alu.specs.declared.types.Check.{Check}
use Rattle.alu.specs.declared.types.Check.TheVariants.{Pass, Over, Short, Below}
use Rattle.alu.specs.declared.types.Checked.{Checked}
use Rattle.alu.specs.declared.bit_manip.BitOp.{BitOp}
use Rattle.alu.specs.declared.bit_manip.BitOp.TheVariants.{Btst, Bset, Bclr, Bchg}
use Rattle.alu.specs.Answers.{figure}
use Rattle.alu.specs.Arith.{add_of, addx_of, sub_of, subx_of, cmp_of, neg_of, negx_of, addq_of, subq_of, addq_address_of, subq_address_of, adda_of, suba_of, cmpa_of, clr_of, not_of, ext_of, chk_of}
use Rattle.alu.specs.Shifts.{shift_of}
use Rattle.alu.specs.Bitops.{bitop_of}
use Rattle.step.specs.declared.registers.State.{State}
use Rattle.step.specs.declared.registers.D.{D}
use Rattle.step.specs.declared.registers.A.{A}
use Rattle.step.specs.declared.forms.TwoOp.{TwoOp}
use Rattle.step.specs.declared.forms.TwoOp.TheVariants.{Add, Sub, Cmp, Addx, Subx}
use Rattle.step.specs.declared.forms.AddressOp.{AddressOp}
use Rattle.step.specs.declared.forms.AddressOp.TheVariants.{Adda, Suba, Cmpa}
use Rattle.step.specs.declared.forms.QuickOp.{QuickOp}
use Rattle.step.specs.declared.forms.QuickOp.TheVariants.{Addq, Subq}
use Rattle.step.specs.declared.forms.OneOp.{OneOp}
use Rattle.step.specs.declared.forms.OneOp.TheVariants.{Clr, Neg, Negx, Not, Ext}
use Rattle.step.specs.declared.forms.Register.{Register}
use Rattle.step.specs.declared.forms.Count.{Count}
use Rattle.step.specs.declared.forms.Form.{Form}
use Rattle.step.specs.declared.forms.Form.TheVariants.{Two, Address, Quick, One, Shift, Bit, Chk}
use Rattle.step.specs.declared.forms.Step.{Step}
use Rattle.step.specs.declared.steps.Fault.{Fault}
use Rattle.step.specs.declared.steps.Fault.TheVariants.{BadSmall, NoSuchSize, NoSuchRegister, StartPastEnd}
use Rattle.step.specs.declared.steps.Trap.{Trap}
use Rattle.step.specs.declared.steps.Trap.TheVariants.{Over as TrapOver, Short as TrapShort, Below as TrapBelow}
use Rattle.step.specs.declared.steps.Outcome.{Outcome}
use Rattle.step.specs.declared.steps.Outcome.TheVariants.{Done, Trapped, Refused}
use Rattle.step.specs.declared.steps.Performed.{Performed}
use Rattle.step.specs.Registers.{data_of, address_of, put_data, put_address, put_flags}

-- document 01's refusal numbers of steps and runs
abbrev pub number_of : Fault → ℕ
number_of BadSmall = 1
number_of NoSuchSize = 2
number_of NoSuchRegister = 3
number_of StartPastEnd = 10

-- the classes of a trap by number, as the crate alu numbers CHK's
abbrev pub class_of : Trap → ℕ
class_of TrapOver = 1
class_of TrapShort = 2
class_of TrapBelow = 3

-- ---- may the step be done?

pub data Ruling : Type 0 where
  Sound : Ruling
  Faulty : Fault → Ruling

-- the order of the tests: 3, 2, 1. `true` says that a test is passed
abbrev pub refusal_of : (registers size small : Bool) → Ruling
refusal_of false size small = Faulty NoSuchRegister
refusal_of true false small = Faulty NoSuchSize
refusal_of true true false = Faulty BadSmall
refusal_of true true true = Sound

-- a number that names a register, 0 to 7
abbrev pub there : ℕ → Bool
there r = nat_lt r 8

abbrev pub register_there : Register → Bool
register_there (Register.Data r) = there r.0
register_there (Register.Address r) = there r.0

abbrev pub count_there : Count → Bool
count_there (Count.Small k) = true
count_there (Count.Data r) = there r.0

-- a small number from `least` to `most`; a register as count is never out of range
abbrev pub within : (least most k : ℕ) → Bool
within least most k = nat_le least k && nat_le k most

abbrev pub count_within : (least most : ℕ) → Count → Bool
count_within least most (Count.Small k) = within least most k
count_within least most (Count.Data r) = true

-- the sizes of document 01's forms table, where they are not all three
abbrev pub not_byte : Size → Bool
not_byte Byte = false
not_byte Word = true
not_byte Long = true

abbrev pub is_word : Size → Bool
is_word Byte = false
is_word Word = true
is_word Long = false

abbrev pub is_long : Size → Bool
is_long Byte = false
is_long Word = false
is_long Long = true

abbrev pub quick_size : Register → Size → Bool
quick_size (Register.Data r) size = true
quick_size (Register.Address r) size = not_byte size

abbrev pub one_size : OneOp → Size → Bool
one_size Clr size = true
one_size Neg size = true
one_size Negx size = true
one_size Not size = true
one_size Ext size = not_byte size

-- each form's registers, sizes and small numbers
abbrev pub ruling_of : Size → Form → Ruling
ruling_of size (Two op r t) = refusal_of (there r.0 && there t.0) true true
ruling_of size (Address op r t) = refusal_of (register_there r && there t.0) (not_byte size) true
ruling_of size (Quick op k t) = refusal_of (register_there t) (quick_size t size) (within 1 8 k)
ruling_of size (One op t) = refusal_of (there t.0) (one_size op size) true
ruling_of size (Shift op c t) = refusal_of (count_there c && there t.0) true (count_within 1 8 c)
ruling_of size (Bit op c t) = refusal_of (count_there c && there t.0) (is_long size) (count_within 0 31 c)
ruling_of size (Chk r t) = refusal_of (there r.0 && there t.0) (is_word size) true

-- ---- the operations' answers, of the values of source and destination and of the flags

abbrev pub two_of : TwoOp → Size → (src dst : ℕ) → Flags → Answer
two_of Add = add_of
two_of Sub = sub_of
two_of Cmp = cmp_of
two_of Addx = addx_of
two_of Subx = subx_of

abbrev pub on_address_of : AddressOp → Size → (src dst : ℕ) → Flags → Answer
on_address_of Adda = adda_of
on_address_of Suba = suba_of
on_address_of Cmpa = cmpa_of

abbrev pub quick_of : QuickOp → Size → (src dst : ℕ) → Flags → Answer
quick_of Addq = addq_of
quick_of Subq = subq_of

abbrev pub quick_address_of : QuickOp → Size → (src dst : ℕ) → Flags → Answer
quick_address_of Addq = addq_address_of
quick_address_of Subq = subq_address_of

abbrev pub one_of : OneOp → Size → (dst : ℕ) → Flags → Answer
one_of Clr size dst f = clr_of size f
one_of Neg size dst f = neg_of size dst f
one_of Negx size dst f = negx_of size dst f
one_of Not size dst f = not_of size dst f
one_of Ext size dst f = ext_of size dst f

-- ---- a step that is done

-- what a source holds
abbrev pub register_value : State → Register → ℕ
register_value s (Register.Data r) = data_of s r
register_value s (Register.Address r) = address_of s r

-- a shift's count or a bit's number: a register's value is taken mod 64 or mod 32
abbrev pub count_value : State → (modulus : ℕ) → Count → ℕ
count_value s modulus (Count.Small k) = k
count_value s modulus (Count.Data r) = data_of s r % modulus

-- An answer's flags go to the state s. (A step that is sound is never refused by its operation: `never_refused` of proofs/Sound)
abbrev pub concluded : Outcome → State → Answer → Performed
concluded outcome s answer = record { outcome = outcome; state = put_flags s answer.flags; clocks = answer.clocks }

-- Its result goes to a data register, at the step's size, or whole to an address register. CMP, CMPA and BTST answer the destination as it was handed
-- in, so that nothing changes there; ADDA, SUBA and ADDQ and SUBQ on an address register answer the flags as they came
abbrev pub to_data : State → Size → D → Answer → Performed
to_data s size t answer = concluded Done (put_data s size t answer.result) answer

abbrev pub to_address : State → A → Answer → Performed
to_address s t answer = concluded Done (put_address s t answer.result) answer

-- CHK writes no register; it may trap
abbrev pub outcome_of : Check → Outcome
outcome_of Pass = Done
outcome_of Over = Trapped TrapOver
outcome_of Short = Trapped TrapShort
outcome_of Below = Trapped TrapBelow

abbrev pub checked_of : State → Checked → Performed
checked_of s c = concluded (outcome_of c.check) s c.answer

-- all operands are read in the state s, before anything is written. The figure is the operation's
abbrev pub operated_of : State → Size → Form → Performed
operated_of s size (Two op r t) = to_data s size t (two_of op size (data_of s r) (data_of s t) s.flags)
operated_of s size (Address op r t) = to_address s t (on_address_of op size (register_value s r) (address_of s t) s.flags)
operated_of s size (Quick op k (Register.Data t)) = to_data s size t (quick_of op size k (data_of s t) s.flags)
operated_of s size (Quick op k (Register.Address t)) = to_address s t (quick_address_of op size k (address_of s t) s.flags)
operated_of s size (One op t) = to_data s size t (one_of op size (data_of s t) s.flags)
operated_of s size (Shift op c t) = to_data s size t (shift_of op size (count_value s 64 c) (data_of s t) s.flags)
operated_of s size (Bit op c t) = to_data s size t (bitop_of op size (count_value s 32 c) (data_of s t) s.flags)
operated_of s size (Chk r t) = checked_of s (chk_of size (data_of s r) (data_of s t) s.flags)

-- ---- its clock figure

-- The operation's, but for six (document 02, item 3): 8 for long ADD, SUB, ADDX and SUBX and 6 for long CMP, where an operation has 4; 8 for BCLR below
-- bit 16, where it has 10. (`figure size a b` is a for byte and word, b for long)
abbrev pub figure_of_two : TwoOp → Size → (operation : ℕ) → ℕ
figure_of_two Add size operation = figure size operation 8
figure_of_two Sub size operation = figure size operation 8
figure_of_two Cmp size operation = figure size operation 6
figure_of_two Addx size operation = figure size operation 8
figure_of_two Subx size operation = figure size operation 8

abbrev pub figure_of_bit : BitOp → (number operation : ℕ) → ℕ
figure_of_bit Btst number operation = operation
figure_of_bit Bset number operation = operation
figure_of_bit Bclr number operation = cond (nat_lt number 16) 8 operation
figure_of_bit Bchg number operation = operation

-- of a step on the state s, from its operation's
abbrev pub figure_in : State → Size → Form → (operation : ℕ) → ℕ
figure_in s size (Two op r t) operation = figure_of_two op size operation
figure_in s size (Address op r t) operation = operation
figure_in s size (Quick op k t) operation = operation
figure_in s size (One op t) operation = operation
figure_in s size (Shift op c t) operation = operation
figure_in s size (Bit op c t) operation = figure_of_bit op (count_value s 32 c) operation
figure_in s size (Chk r t) operation = operation

-- what the operation did, with the figure that it has in the step
abbrev pub timed : (inStep : ℕ → ℕ) → Performed → Performed
timed inStep p = record { outcome = p.outcome; state = p.state; clocks = inStep p.clocks }

abbrev pub act_of : State → Size → Form → Performed
act_of s size form = timed (figure_in s size form) (operated_of s size form)

-- ---- the step

-- a refused step changes nothing and counts no clocks; `done` is what it would have made
abbrev pub judged : Ruling → State → (done : Performed) → Performed
judged Sound s done = done
judged (Faulty fault) s done = record { outcome = Refused fault; state = s; clocks = 0 }

abbrev pub perform_form : State → Size → Form → Performed
perform_form s size form = judged (ruling_of size form) s (act_of s size form)

abbrev pub perform_of : State → Step → Performed
perform_of s k = perform_form s k.size k.form

-- document 01's refusal number of a step's outcome, and the class of a trap; 0 where there is none
abbrev pub refused_with : Outcome → ℕ
refused_with Done = 0
refused_with (Trapped trap) = 0
refused_with (Refused fault) = number_of fault

abbrev pub trapped_with : Outcome → ℕ
trapped_with Done = 0
trapped_with (Trapped trap) = class_of trap
trapped_with (Refused fault) = 0
