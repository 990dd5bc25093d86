-- BTST, BSET, BCLR and BCHG of a data register: document 01, "Result and flag rules" and "Clock figures". k is the number of a bit, 0 to 31; d is
-- the destination, f the flags before. Assumes nothing.
use Rattle.std.specs.Prelude.{ℕ, ◌%◌, true, false, not, cond, ltb}
use Rattle.alu.specs.declared.types.Size.{Size}
use Rattle.alu.specs.declared.types.Flags.{Flags}
use Rattle.alu.specs.declared.types.Answer.{Answer}
use Rattle.alu.specs.declared.bit_manip.BitOp.{BitOp}
use Rattle.alu.specs.declared.bit_manip.BitOp.TheVariants.{Btst, Bset, Bclr, Bchg}
use Rattle.alu.specs.Bits.{bit, with_bit}
use Rattle.alu.specs.Answers.{accepted, only_long}

-- BTST leaves the destination as it was handed in; BSET sets the bit, BCLR clears it, BCHG turns it over
abbrev pub bit_result : BitOp → (k d : ℕ) → ℕ
bit_result Btst k d = d
bit_result Bset k d = with_bit k true d
bit_result Bclr k d = with_bit k false d
bit_result Bchg k d = with_bit k (not (bit k d)) d

-- Z tells whether the bit was clear before; no other flag is touched
abbrev pub bit_flags : (k d : ℕ) → Flags → Flags
bit_flags k d f = record { x = f.x; n = f.n; z = not (bit k d); v = f.v; c = f.c }

-- BTST: 6. BSET and BCHG: 6, from bit 16 on 8. BCLR: 10 at every bit, as the crate m68k returns it
abbrev pub bit_figure : BitOp → (k : ℕ) → ℕ
bit_figure Btst k = 6
bit_figure Bset k = cond (ltb k 16) 6 8
bit_figure Bclr k = 10
bit_figure Bchg k = cond (ltb k 16) 6 8

-- the operations. The bit's number is taken mod 32, and here it is any number; only a step holds a small number to 0 to 31. Byte and word are
-- refused
unfoldable pub bitop_of : BitOp → Size → (number d : ℕ) → Flags → Answer
bitop_of op size number d f =
    let k = number % 32 in only_long size f (accepted (bit_result op k d) (bit_flags k d f) (bit_figure op k))
