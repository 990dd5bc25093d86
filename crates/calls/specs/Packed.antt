-- The packed form of a request and of an answer: numbers for a caller in another language.
-- Assumes nothing.
use Rattle.std.specs.Prelude.{ℕ, ◌+◌, ◌*◌, ◌%◌, ◌^◌, cond, List, [], ◌∷◌, eqb, Option, Some, None}
use Rattle.alu.specs.declared.types.Size.{Size}
use Rattle.alu.specs.declared.types.Size.TheVariants.{Byte, Word, Long}
use Rattle.alu.specs.declared.types.Flags.{Flags}
use Rattle.alu.specs.declared.types.Verdict.TheVariants.{NoSuchSize}
use Rattle.alu.specs.declared.types.Answer.{Answer}
use Rattle.alu.specs.declared.types.Check.TheVariants.{Pass}
use Rattle.alu.specs.declared.types.Checked.{Checked}
use Rattle.alu.specs.ConditionCodes.{flags_of, ccr_of}
use Rattle.alu.specs.Answers.{number_of, class_of, refused}
use Rattle.alu.specs.declared.shift_rotate.ShiftOp.TheVariants.{Asl, Asr, Lsl, Lsr, Rol, Ror, Roxl, Roxr}
use Rattle.alu.specs.declared.bit_manip.BitOp.TheVariants.{Btst, Bset, Bclr, Bchg}
use Rattle.alu.specs.Arith.{add_of, addx_of, adda_of, addq_of, addq_address_of, sub_of, subx_of, suba_of, subq_of, subq_address_of, cmp_of, cmpa_of}
use Rattle.alu.specs.Arith.{clr_of, neg_of, negx_of, not_of, ext_of, chk_of}
use Rattle.alu.specs.Shifts.{shift_of}
use Rattle.alu.specs.Bitops.{bitop_of}

-- the sizes by number: 0 byte, 1 word, 2 long; a greater number names none
abbrev pub size_of : ℕ → Option Size
size_of k = cond (eqb k 0) (Some Byte) (cond (eqb k 1) (Some Word) (cond (eqb k 2) (Some Long) None))

-- the answer: the result in bits 0 to 31, the flags in 32 to 36 (`ccr_of`), the low 8 bits of the clock figure in 40 to 47 (all of it: `answer_fits`
-- of proofs/Unpacked), the refusal number in 48 and 49, CHK's class in 52 and 53; all other bits are 0
abbrev pub packed : Checked → ℕ
packed k =
    let a = k.answer in
    a.result + ccr_of a.flags * 2 ^ 32 + a.clocks % 2 ^ 8 * 2 ^ 40 + number_of a.verdict * 2 ^ 48 + class_of k.check * 2 ^ 52

-- an answer without a class: Pass, packed as 0
abbrev pub plain : Answer → Checked
plain a = record { check = Pass; answer = a }

-- an operation and its number: of source and destination, of the destination alone, of neither, and CHK, of bound and value
pub data Row : Type 0 where
  two : (number : ℕ) → (Size → (s d : ℕ) → Flags → Answer) → Row
  one : (number : ℕ) → (Size → (d : ℕ) → Flags → Answer) → Row
  none : (number : ℕ) → (Size → Flags → Answer) → Row
  check : (number : ℕ) → (Size → (bound value : ℕ) → Flags → Checked) → Row

-- the operations by number, in the order of document 01's forms table: that of steps too (`same_table` of recipe_calls/proofs/Agree). The source of ADDQ
-- and SUBQ (08 and 09 on data, 0a and 0b on an address register) is the small number, that of a shift the count, that of a bit operation the bit's
-- number
unfoldable pub operations : List Row
operations =
    two 0x00 add_of ∷
    two 0x01 sub_of ∷
    two 0x02 cmp_of ∷
    two 0x03 addx_of ∷
    two 0x04 subx_of ∷
    two 0x05 adda_of ∷
    two 0x06 suba_of ∷
    two 0x07 cmpa_of ∷
    two 0x08 addq_of ∷
    two 0x09 subq_of ∷
    two 0x0a addq_address_of ∷
    two 0x0b subq_address_of ∷
    none 0x0c clr_of ∷
    one 0x0d neg_of ∷
    one 0x0e negx_of ∷
    one 0x0f not_of ∷
    one 0x10 ext_of ∷
    two 0x11 (shift_of Asl) ∷
    two 0x12 (shift_of Asr) ∷
    two 0x13 (shift_of Lsl) ∷
    two 0x14 (shift_of Lsr) ∷
    two 0x15 (shift_of Rol) ∷
    two 0x16 (shift_of Ror) ∷
    two 0x17 (shift_of Roxl) ∷
    two 0x18 (shift_of Roxr) ∷
    two 0x19 (bitop_of Btst) ∷
    two 0x1a (bitop_of Bset) ∷
    two 0x1b (bitop_of Bclr) ∷
    two 0x1c (bitop_of Bchg) ∷
    check 0x1d chk_of ∷ []

-- a row's number, and what it does
abbrev pub number_in : Row → ℕ
number_in (two number of) = number
number_in (one number of) = number
number_in (none number of) = number
number_in (check number of) = number

abbrev pub done : Row → Size → (s d : ℕ) → Flags → Checked
done (two number of) size s d f = plain (of size s d f)
done (one number of) size s d f = plain (of size d f)
done (none number of) size s d f = plain (of size f)
done (check number of) size s d f = of size s d f

-- the operation of a table that has that number; a number that names none is refused with 2
unfoldable pub chosen : List Row → (op : ℕ) → Size → (s d : ℕ) → Flags → Checked
chosen [] op size s d f = plain (refused NoSuchSize f)
chosen (row ∷ rest) op size s d f = cond (eqb op (number_in row)) (done row size s d f) (chosen rest op size s d f)

abbrev pub answer_of : (op : ℕ) → Size → (s d : ℕ) → Flags → Checked
answer_of op size s d f = chosen operations op size s d f

-- the same where the size may be none: refused with 2, before anything else is looked at
abbrev pub asked_of : (op : ℕ) → Option Size → (s d : ℕ) → Flags → Checked
asked_of op (Some size) s d f = answer_of op size s d f
asked_of op None s d f = plain (refused NoSuchSize f)

abbrev pub call_of : (op size s d ccr : ℕ) → ℕ
call_of op size s d ccr = packed (asked_of op (size_of size) s d (flags_of ccr))
