-- The eight shifts and rotates: the operand moves by one position, as often as the count says. Document 01, "Result and flag rules" and "Clock
-- figures". n is the number of bits, k the number of positions. What document 01 says of counts at and above the size and of whole rounds follows
-- from the single position (`proofs/Counts.antt`); so do products and quotients (`proofs/Products.antt`). Assumes nothing.
use Rattle.std.specs.Prelude.{ℕ, zero, suc, ◌+◌, ◌-◌, ◌*◌, ◌/◌, ◌%◌, ◌^◌, Bool, false, not, cond, ◌&&◌, ◌||◌, eqb, ltb}
use Rattle.std.specs.Bool.{xor}
use Rattle.alu.specs.declared.types.Size.{Size}
use Rattle.alu.specs.declared.types.Flags.{Flags}
use Rattle.alu.specs.declared.types.Verdict.TheVariants.{BadCount}
use Rattle.alu.specs.declared.types.Answer.{Answer}
use Rattle.alu.specs.declared.shift_rotate.ShiftOp.{ShiftOp}
use Rattle.alu.specs.declared.shift_rotate.ShiftOp.TheVariants.{Asl, Asr, Lsl, Lsr, Rol, Ror, Roxl, Roxr}
use Rattle.alu.specs.declared.shift_rotate.Held.{Held}
use Rattle.alu.specs.Bits.{bits_of, low, lowest, top, digit}
use Rattle.alu.specs.ConditionCodes.{result_flags}
use Rattle.alu.specs.Answers.{accepted, refused, figure}

-- `Held` (src/shift_rotate.rt): an operand of n bits (`value`, below 2 ^ n) and one bit beside it (`out`): the bit that went out last; before the first position, X.

-- one position to the left: b comes in at the bottom, the top bit goes out
abbrev pub left : (n : ℕ) → (b : Bool) → (value : ℕ) → Held
left n b value = record { value = low n (2 * value + digit b); out = top n value }

-- one position to the right: b comes in at the top, the lowest bit goes out
abbrev pub right : (n : ℕ) → (b : Bool) → (value : ℕ) → Held
right n b value = record { value = value / 2 + digit b * 2 ^ (n - 1); out = lowest value }

-- one position of each operation. What comes in: a zero (ASL, LSL, LSR), a copy of the top bit (ASR), the bit that goes out (ROL, ROR), or X,
-- the bit held (ROXL, ROXR). ASL moves as LSL does; only V differs
unfoldable pub turn : ShiftOp → (n : ℕ) → Held → Held
turn Asl n h = left n false h.value
turn Asr n h = right n (top n h.value) h.value
turn Lsl n h = left n false h.value
turn Lsr n h = right n false h.value
turn Rol n h = left n (top n h.value) h.value
turn Ror n h = right n (lowest h.value) h.value
turn Roxl n h = left n h.out h.value
turn Roxr n h = right n h.out h.value

-- k positions
unfoldable pub turns : ShiftOp → (n k : ℕ) → Held → Held
turns op n zero h = h
turns op n (suc k) h = turn op n (turns op n k h)

-- before the first position: the low bits of a value, and X as the bit held
abbrev pub start : (n value : ℕ) → (x : Bool) → Held
start n value x = record { value = low n value; out = x }

-- a value moved by k positions
abbrev pub moved : ShiftOp → (n k value : ℕ) → (x : Bool) → Held
moved op n k value x = turns op n k (start n value x)

-- V of ASL: the top bit changes at any of the k positions
unfoldable pub changed : (n k value : ℕ) → Bool
changed n zero value = false
changed n (suc k) value = let next = (left n false value).value in xor (top n value) (top n next) || changed n k next

-- N and Z of the result's low bits, also where it comes back unmasked; 6 clocks, long 8, and 2 for each position
abbrev pub shift_answer : Size → (k result : ℕ) → (x v c : Bool) → Answer
shift_answer size k result x v c = accepted result (result_flags (bits_of size) result x v c) (figure size 6 8 + 2 * k)

-- ASL, ASR, LSL, LSR: C and X are the last bit out. By 0 the value comes back as it was handed in, C is clear, X stays
-- (the bit held is still X)
abbrev pub shifted : Size → (k value : ℕ) → Held → (v : Bool) → Answer
shifted size k value h v = shift_answer size k (cond (eqb k 0) value h.value) h.out v (not (eqb k 0) && h.out)

-- ROL, ROR: C is the last bit out, by 0 clear; X stays
abbrev pub rotated : Size → (k : ℕ) → Held → (x : Bool) → Answer
rotated size k h x = shift_answer size k h.value x false (not (eqb k 0) && h.out)

-- ROXL, ROXR: C and X are the bit held at the end
abbrev pub through : Size → (k : ℕ) → Held → Answer
through size k h = shift_answer size k h.value h.out false h.out

-- the operations. ASL to ROR take the count mod 64; ROXL and ROXR refuse a count above 63. V is clear for all but ASL
unfoldable pub shift_of : ShiftOp → Size → (count value : ℕ) → Flags → Answer
shift_of Asl size count value f =
    let n = bits_of size in
    let k = count % 64 in shifted size k value (moved Asl n k value f.x) (changed n k (low n value))
shift_of Asr size count value f = let k = count % 64 in shifted size k value (moved Asr (bits_of size) k value f.x) false
shift_of Lsl size count value f = let k = count % 64 in shifted size k value (moved Lsl (bits_of size) k value f.x) false
shift_of Lsr size count value f = let k = count % 64 in shifted size k value (moved Lsr (bits_of size) k value f.x) false
shift_of Rol size count value f = let k = count % 64 in rotated size k (moved Rol (bits_of size) k value f.x) f.x
shift_of Ror size count value f = let k = count % 64 in rotated size k (moved Ror (bits_of size) k value f.x) f.x
shift_of Roxl size count value f = cond (ltb 63 count) (refused BadCount f) (through size count (moved Roxl (bits_of size) count value f.x))
shift_of Roxr size count value f = cond (ltb 63 count) (refused BadCount f) (through size count (moved Roxr (bits_of size) count value f.x))
