-- The integer arithmetic of the register forms: document 01, "Result and flag rules" and "Clock figures".
-- s is the source, d the destination, f the flags before (ADD, SUB and NEG, and ADDQ and SUBQ on data, take it for the one shape and do not look
-- at it). The last number of `accepted` is the clock figure; `unless_byte` refuses byte;
-- `cond test yes no` is a choice. Assumes nothing.
use Rattle.std.specs.Prelude.{ℕ, ◌+◌, ◌-◌, ◌/◌, ◌%◌, ◌^◌, Bool, false, not, cond, ◌&&◌, ℤ, pos, ◌+ℤ◌, ◌-ℤ◌}
use Rattle.std.specs.Int.Signed.{lt_z}
use Rattle.alu.specs.declared.types.Size.{Size}
use Rattle.alu.specs.declared.types.Size.TheVariants.{Byte, Word, Long}
use Rattle.alu.specs.declared.types.Flags.{Flags}
use Rattle.alu.specs.declared.types.Answer.{Answer}
use Rattle.alu.specs.declared.types.Check.{Check}
use Rattle.alu.specs.declared.types.Check.TheVariants.{Pass, Over, Short, Below}
use Rattle.alu.specs.declared.types.Checked.{Checked}
use Rattle.alu.specs.Bits.{bits_of, low, digit, join, signed, fits, complement, extended}
use Rattle.alu.specs.ConditionCodes.{add_flags, sub_flags, neg_flags, keep_z, keep_x, logic_flags}
use Rattle.alu.specs.Answers.{accepted, refigured, figure, unless_byte, chk_figure, only_word}

-- d + s + x and d - s - x in n bits; x is the X flag that goes in, or false
unfoldable pub sum : (n s d : ℕ) → (x : Bool) → ℕ
sum n s d x = (low n d + low n s + digit x) % 2 ^ n

unfoldable pub difference : (n s d : ℕ) → (x : Bool) → ℕ
difference n s d x = (2 ^ n + low n d - (low n s + digit x)) % 2 ^ n

-- the true signed sum and difference, as integers: terms of the laws alone (proofs/Integers)
abbrev pub true_sum : (n s d : ℕ) → (x : Bool) → ℤ
true_sum n s d x = signed n s +ℤ signed n d +ℤ pos (digit x)

abbrev pub true_difference : (n s d : ℕ) → (x : Bool) → ℤ
true_difference n s d x = signed n d -ℤ signed n s -ℤ pos (digit x)

-- ADD, ADDX. (The crate m68k returns no figure for ADDX and SUBX; document 01 counts them 4)
abbrev pub add_of : Size → (s d : ℕ) → Flags → Answer
add_of size s d f = let n = bits_of size in let r = sum n s d false in accepted r (add_flags n s d r) 4

abbrev pub addx_of : Size → (s d : ℕ) → Flags → Answer
addx_of size s d f = let n = bits_of size in let r = sum n s d f.x in accepted r (keep_z f (add_flags n s d r)) 4

-- SUB, SUBX
abbrev pub sub_of : Size → (s d : ℕ) → Flags → Answer
sub_of size s d f = let n = bits_of size in let r = difference n s d false in accepted r (sub_flags n s d r) 4

abbrev pub subx_of : Size → (s d : ℕ) → Flags → Answer
subx_of size s d f =
    let n = bits_of size in let r = difference n s d f.x in accepted r (keep_z f (sub_flags n s d r)) 4

-- CMP: the flags of d - s, X kept; the destination comes back as it was handed in
abbrev pub cmp_of : Size → (s d : ℕ) → Flags → Answer
cmp_of size s d f = let n = bits_of size in accepted d (keep_x f (sub_flags n s d (difference n s d false))) 4

-- NEG, NEGX: 0 - d and 0 - d - x
abbrev pub neg_of : Size → (d : ℕ) → Flags → Answer
neg_of size d f =
    let n = bits_of size in let r = difference n d 0 false in accepted r (neg_flags n d r) (figure size 4 6)

abbrev pub negx_of : Size → (d : ℕ) → Flags → Answer
negx_of size d f =
    let n = bits_of size in
    let r = difference n d 0 f.x in accepted r (keep_z f (neg_flags n d r)) (figure size 4 6)

-- ADDQ, SUBQ on a data register: ADD and SUB with a figure of their own. Here s is any number; only a step holds it to 1 to 8
abbrev pub addq_of : Size → (s d : ℕ) → Flags → Answer
addq_of size s d f = refigured (add_of size s d f) (figure size 4 8)

abbrev pub subq_of : Size → (s d : ℕ) → Flags → Answer
subq_of size s d f = refigured (sub_of size s d f) (figure size 4 8)

-- ADDQ, SUBQ on an address register: 32 bits are used at either size, no flag is touched
abbrev pub addq_address_of : Size → (s d : ℕ) → Flags → Answer
addq_address_of size s d f = unless_byte size f (accepted (sum 32 s d false) f 8)

abbrev pub subq_address_of : Size → (s d : ℕ) → Flags → Answer
subq_address_of size s d f = unless_byte size f (accepted (difference 32 s d false) f 8)

-- the source of ADDA, SUBA and CMPA: a word is sign-extended to 32 bits, a long taken as it is
abbrev pub address_source : Size → (s : ℕ) → ℕ
address_source size s = extended (bits_of size) 32 s

-- ADDA, SUBA: 32 bits are used, no flag is touched
abbrev pub adda_of : Size → (s d : ℕ) → Flags → Answer
adda_of size s d f = unless_byte size f (accepted (sum 32 (address_source size s) d false) f 8)

abbrev pub suba_of : Size → (s d : ℕ) → Flags → Answer
suba_of size s d f = unless_byte size f (accepted (difference 32 (address_source size s) d false) f 8)

-- CMPA: long CMP with a figure of its own; so X is kept, and the destination comes back as it was handed in
abbrev pub cmpa_of : Size → (s d : ℕ) → Flags → Answer
cmpa_of size s d f = unless_byte size f (refigured (cmp_of Long (address_source size s) d f) 6)

-- CLR: the result is 0, whatever was there
abbrev pub clr_of : Size → Flags → Answer
clr_of size f = accepted 0 (logic_flags (bits_of size) 0 f) (figure size 4 6)

-- NOT
abbrev pub not_of : Size → (d : ℕ) → Flags → Answer
not_of size d f =
    let n = bits_of size in let r = complement n d in accepted r (logic_flags n r f) (figure size 4 6)

-- EXT: byte to word, the register's upper half kept; word to long. (Byte is refused.)
abbrev pub ext_result : Size → (d : ℕ) → ℕ
ext_result Byte d = d
ext_result Word d = join 16 (extended 8 16 d) (d / 2 ^ 16)
ext_result Long d = extended 16 32 d

abbrev pub ext_of : Size → (d : ℕ) → Flags → Answer
ext_of size d f =
    let r = ext_result size d in unless_byte size f (accepted r (logic_flags (bits_of size) r f) 4)

-- CHK's class, of n bits, in document 01's order: the value is above the bound; it is below 0, and value - bound doesn't fit; it is below 0
unfoldable pub check_of : (n bound value : ℕ) → Check
check_of n bound value =
    let b = signed n bound in
    let v = signed n value in
    cond (lt_z b v) Over
    (cond (lt_z v (pos 0) && not (fits n (v -ℤ b))) Short
    (cond (lt_z v (pos 0)) Below
    Pass))

-- CHK's flags: N is set if the value is below 0, Z, V and C are cleared, X is kept: so document 01 and the crate m68k. (The Manual's row is another: it
-- clears N where the value is above the bound, and leaves Z, V and C undefined.)
abbrev pub chk_flags : (value : ℕ) → Flags → Flags
chk_flags value f = record { x = f.x; n = lt_z (signed 16 value) (pos 0); z = false; v = false; c = false }

-- CHK, of words; the value comes back as it was handed in
abbrev pub chk_of : Size → (bound value : ℕ) → Flags → Checked
chk_of size bound value f =
    let class = check_of 16 bound value in
    only_word size f (record { check = class; answer = accepted value (chk_flags value f) (chk_figure class) })
