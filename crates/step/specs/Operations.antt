-- The thirty operations of document 01's forms table, as steps are numbered and printed: one list of rows, and the place of a row is the number of its
-- operation (`places` and `stands` of proofs/Operations). `alu_call` goes by the same numbers (`same_table` of recipe_calls/proofs/Agree). Assumes
-- nothing.
use Rattle.std.specs.Prelude.{ℕ, Option, List, [], ◌∷◌, map, get_or, slice_get}
use Prim.Native.String.{String}
use Rattle.alu.specs.declared.shift_rotate.ShiftOp.TheVariants.{Asl, Asr, Lsl, Lsr, Rol, Ror, Roxl, Roxr}
use Rattle.alu.specs.declared.bit_manip.BitOp.TheVariants.{Btst, Bset, Bclr, Bchg}
use Rattle.step.specs.declared.forms.TwoOp.TheVariants.{Add, Sub, Cmp, Addx, Subx}
use Rattle.step.specs.declared.forms.AddressOp.TheVariants.{Adda, Suba, Cmpa}
use Rattle.step.specs.declared.forms.QuickOp.TheVariants.{Addq, Subq}
use Rattle.step.specs.declared.forms.OneOp.TheVariants.{Clr, Neg, Negx, Not, Ext}
use Rattle.step.specs.declared.forms.Register.TheVariants as Register
use Rattle.step.specs.declared.forms.Form.{Form}
use Rattle.step.specs.declared.forms.Operation.{Operation}
use Rattle.step.specs.declared.forms.Operation.TheVariants.{Two, Address, Quick, QuickAddress, One, Shift, Bit, Chk}

-- an operation, and its name where a listing is printed
pub record Row : Type 0 where
  pub operation : Operation
  pub name : String

abbrev pub row : Operation → String → Row
row operation name = record { operation = operation; name = name }

-- ADDQ and SUBQ stand twice: on a data register, and on an address register
abbrev pub operations : List Row
operations =
    row (Two Add) "ADD" ∷
    row (Two Sub) "SUB" ∷
    row (Two Cmp) "CMP" ∷
    row (Two Addx) "ADDX" ∷
    row (Two Subx) "SUBX" ∷
    row (Address Adda) "ADDA" ∷
    row (Address Suba) "SUBA" ∷
    row (Address Cmpa) "CMPA" ∷
    row (Quick Addq) "ADDQ" ∷
    row (Quick Subq) "SUBQ" ∷
    row (QuickAddress Addq) "ADDQ" ∷
    row (QuickAddress Subq) "SUBQ" ∷
    row (One Clr) "CLR" ∷
    row (One Neg) "NEG" ∷
    row (One Negx) "NEGX" ∷
    row (One Not) "NOT" ∷
    row (One Ext) "EXT" ∷
    row (Shift Asl) "ASL" ∷
    row (Shift Asr) "ASR" ∷
    row (Shift Lsl) "LSL" ∷
    row (Shift Lsr) "LSR" ∷
    row (Shift Rol) "ROL" ∷
    row (Shift Ror) "ROR" ∷
    row (Shift Roxl) "ROXL" ∷
    row (Shift Roxr) "ROXR" ∷
    row (Bit Btst) "BTST" ∷
    row (Bit Bset) "BSET" ∷
    row (Bit Bclr) "BCLR" ∷
    row (Bit Bchg) "BCHG" ∷
    row Chk "CHK" ∷ []

-- the operation of a number, if there is a row of that place
abbrev pub operation_at : ℕ → Option Operation
operation_at n = slice_get (map (λ (r : Row). r.operation) operations) n

-- the place of an operation's row
abbrev pub operation_number : Operation → ℕ
operation_number (Two Add) = 0x00
operation_number (Two Sub) = 0x01
operation_number (Two Cmp) = 0x02
operation_number (Two Addx) = 0x03
operation_number (Two Subx) = 0x04
operation_number (Address Adda) = 0x05
operation_number (Address Suba) = 0x06
operation_number (Address Cmpa) = 0x07
operation_number (Quick Addq) = 0x08
operation_number (Quick Subq) = 0x09
operation_number (QuickAddress Addq) = 0x0a
operation_number (QuickAddress Subq) = 0x0b
operation_number (One Clr) = 0x0c
operation_number (One Neg) = 0x0d
operation_number (One Negx) = 0x0e
operation_number (One Not) = 0x0f
operation_number (One Ext) = 0x10
operation_number (Shift Asl) = 0x11
operation_number (Shift Asr) = 0x12
operation_number (Shift Lsl) = 0x13
operation_number (Shift Lsr) = 0x14
operation_number (Shift Rol) = 0x15
operation_number (Shift Ror) = 0x16
operation_number (Shift Roxl) = 0x17
operation_number (Shift Roxr) = 0x18
operation_number (Bit Btst) = 0x19
operation_number (Bit Bset) = 0x1a
operation_number (Bit Bclr) = 0x1b
operation_number (Bit Bchg) = 0x1c
operation_number Chk = 0x1d

-- its name there. (Each has a row, so that the one past the table is never met)
abbrev pub operation_name : Operation → String
operation_name o = (get_or operations (operation_number o) (row Chk "")).name

-- what a form does, apart from its operands
abbrev pub operation_of : Form → Operation
operation_of (Form.Two op r t) = Two op
operation_of (Form.Address op r t) = Address op
operation_of (Form.Quick op k (Register.Data t)) = Quick op
operation_of (Form.Quick op k (Register.Address t)) = QuickAddress op
operation_of (Form.One op t) = One op
operation_of (Form.Shift op c t) = Shift op
operation_of (Form.Bit op c t) = Bit op
operation_of (Form.Chk r t) = Chk
