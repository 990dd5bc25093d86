-- `alu_call` and the words of steps go by the same numbers. Assumes nothing.
--     same_table   row by row the table of calls/specs/Packed has the number and the definition of the operation that stands there in
--                  step/specs/Operations. (A step that is no operation on values would stand there behind them)
--     acts         and by that definition a step answers (`answer_in` of step/proofs/Sound)
use Prim.Native.Nat.{ℕ}
use mathlib.Core.Path.{◌≡◌, refl}
use mathlib.Core.List.{map}
use lib.ListN.{length, take}
use Rattle.alu.specs.declared.types.Size.{Size}
use Rattle.alu.specs.declared.types.Flags.{Flags}
use Rattle.alu.specs.declared.types.Checked.{Checked}
use Rattle.alu.specs.Arith.{chk_of}
use Rattle.alu.specs.Shifts.{shift_of}
use Rattle.alu.specs.Bitops.{bitop_of}
use Rattle.step.specs.declared.forms.Operation.{Operation}
use Rattle.step.specs.declared.forms.Operation.TheVariants.{Two, Address, Quick, QuickAddress, One, Shift, Bit, Chk}
use Rattle.step.specs.declared.forms.Register.TheVariants as Register
use Rattle.step.specs.declared.forms.Form.{Form}
use Rattle.step.specs.declared.registers.State.{State}
use Rattle.step.specs.Registers.{data_of, address_of}
use Rattle.step.specs.Operations as step
use Rattle.step.specs.Perform.{two_of, on_address_of, quick_of, quick_address_of, one_of, register_value, count_value}
use Rattle.step.proofs.Sound.{answer_in}
use Rattle.calls.specs.Packed as calls

-- what an operation answers, of the values of source and destination
abbrev pub acting : Operation → Size → (s d : ℕ) → Flags → Checked
acting (Two op) size s d f = calls.plain (two_of op size s d f)
acting (Address op) size s d f = calls.plain (on_address_of op size s d f)
acting (Quick op) size s d f = calls.plain (quick_of op size s d f)
acting (QuickAddress op) size s d f = calls.plain (quick_address_of op size s d f)
acting (One op) size s d f = calls.plain (one_of op size d f)
acting (Shift op) size s d f = calls.plain (shift_of op size s d f)
acting (Bit op) size s d f = calls.plain (bitop_of op size s d f)
acting Chk size s d f = chk_of size s d f

-- an operation's number, and what it does
pub record Numbered : Type 0 where
  pub number : ℕ
  pub does : Size → (s d : ℕ) → Flags → Checked

abbrev pub called : calls.Row → Numbered
called r = record { number = calls.number_in r; does = λ size s d f. calls.done r size s d f }

abbrev pub stepped : step.Row → Numbered
stepped r = record { number = step.operation_number r.operation; does = λ size s d f. acting r.operation size s d f }

pub same_table : map called calls.operations ≡ map stepped (take (length calls.operations) step.operations)
unfolding calls.operations
same_table = refl

-- ---- a step

-- the values of a form's source and destination
abbrev pub source_in : State → Form → ℕ
source_in s (Form.Two op r t) = data_of s r
source_in s (Form.Address op r t) = register_value s r
source_in s (Form.Quick op k t) = k
source_in s (Form.One op t) = 0
source_in s (Form.Shift op c t) = count_value s 64 c
source_in s (Form.Bit op c t) = count_value s 32 c
source_in s (Form.Chk r t) = data_of s r

abbrev pub destination_in : State → Form → ℕ
destination_in s (Form.Two op r t) = data_of s t
destination_in s (Form.Address op r t) = address_of s t
destination_in s (Form.Quick op k t) = register_value s t
destination_in s (Form.One op t) = data_of s t
destination_in s (Form.Shift op c t) = data_of s t
destination_in s (Form.Bit op c t) = data_of s t
destination_in s (Form.Chk r t) = data_of s t

pub acts : (s : State) (size : Size) (form : Form) → answer_in s size form ≡ (acting (step.operation_of form) size (source_in s form) (destination_in s form) s.flags).answer
acts s size (Form.Two op r t) = refl
acts s size (Form.Address op r t) = refl
acts s size (Form.Quick op k (Register.Data t)) = refl
acts s size (Form.Quick op k (Register.Address t)) = refl
acts s size (Form.One op t) = refl
acts s size (Form.Shift op c t) = refl
acts s size (Form.Bit op c t) = refl
acts s size (Form.Chk r t) = refl
