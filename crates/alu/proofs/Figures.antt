-- Every clock figure of document 01 is below 2 ^ 8, whatever the operands: of each kind of figure that the definitions have. Assumes nothing.
use Prim.Native.Nat.{ℕ, ◌+◌, ◌*◌, ◌%◌, ◌^◌, ◌<◌, ◌≤◌}
use mathlib.Core.Path.{◌≡◌, refl}
use mathlib.Core.Bool.{Bool, true, false, cond}
use native.Mathlib.Omega.{arith}
use borrow.Author.Tests.{ltb-false}
use lib.Dec.{ltb, lit<}
use Rattle.alu.specs.declared.types.Size.{Size}
use Rattle.alu.specs.declared.types.Size.TheVariants.{Byte, Word, Long}
use Rattle.alu.specs.declared.types.Flags.{Flags}
use Rattle.alu.specs.declared.types.Answer.{Answer}
use Rattle.alu.specs.declared.types.Verdict.TheVariants.{BadCount}
use Rattle.alu.specs.declared.types.Check.{Check}
use Rattle.alu.specs.declared.types.Check.TheVariants.{Pass, Over, Short, Below}
use Rattle.alu.specs.declared.shift_rotate.ShiftOp.{ShiftOp}
use Rattle.alu.specs.declared.shift_rotate.ShiftOp.TheVariants.{Asl, Asr, Lsl, Lsr, Rol, Ror, Roxl, Roxr}
use Rattle.alu.specs.declared.bit_manip.BitOp.{BitOp}
use Rattle.alu.specs.declared.bit_manip.BitOp.TheVariants.{Btst, Bset, Bclr, Bchg}
use Rattle.alu.specs.Bits.{bits_of}
use Rattle.alu.specs.Answers.{refused, figure, unless_byte, chk_figure}
use Rattle.alu.specs.Arith.{check_of, chk_of}
use Rattle.alu.specs.Shifts.{moved, through, shift_of}
use Rattle.alu.specs.Bitops.{bit_figure, bitop_of}
use Rattle.alu.proofs.Bounds.{figure_le}

-- a figure by the size, and that of an operation without a byte form
pub size_small : (size : Size) (more : ℕ) → more ≤ 8 → figure size 4 more < 2 ^ 8
size_small size more h = omega (arith, figure_le size 4 more 8 (omega arith) h)

pub unless_small : (size : Size) (f : Flags) (a : Answer) → a.clocks < 2 ^ 8 → (unless_byte size f a).clocks < 2 ^ 8
unless_small Byte f a h = lit< tt
unless_small Word f a h = h
unless_small Long f a h = h

-- the shifts: 2 clocks for each position. ROXL and ROXR refuse a count above 63
positions : (size : Size) (k : ℕ) → k < 64 → figure size 6 8 + 2 * k < 2 ^ 8
positions size k h = omega (arith, figure_le size 6 8 8 (omega arith) (omega arith))

within : (size : Size) (count : ℕ) (t : Bool) (none some : Answer) → ltb 63 count ≡ t → none.clocks ≡ 0 → some.clocks ≡ figure size 6 8 + 2 * count
    → (cond t none some).clocks < 2 ^ 8
within size count true none some e z is = rw z (lit< tt)
within size count false none some e z is = rw is (positions size count (omega (arith, ltb-false 63 count e)))

pub shift_small : (op : ShiftOp) (size : Size) (count d : ℕ) (f : Flags) → (shift_of op size count d f).clocks < 2 ^ 8
unfolding shift_of
shift_small Asl size count d f = positions size (count % 64) (omega arith)
shift_small Asr size count d f = positions size (count % 64) (omega arith)
shift_small Lsl size count d f = positions size (count % 64) (omega arith)
shift_small Lsr size count d f = positions size (count % 64) (omega arith)
shift_small Rol size count d f = positions size (count % 64) (omega arith)
shift_small Ror size count d f = positions size (count % 64) (omega arith)
shift_small Roxl size count d f = within size count (ltb 63 count) (refused BadCount f) (through size count (moved Roxl (bits_of size) count d f.x)) refl refl refl
shift_small Roxr size count d f = within size count (ltb 63 count) (refused BadCount f) (through size count (moved Roxr (bits_of size) count d f.x)) refl refl refl

-- the bit operations
upper : (t : Bool) → cond t 6 8 < 2 ^ 8
upper true = lit< tt
upper false = lit< tt

bit_figure_small : (op : BitOp) (k : ℕ) → bit_figure op k < 2 ^ 8
bit_figure_small Btst k = lit< tt
bit_figure_small Bset k = upper (ltb k 16)
bit_figure_small Bclr k = lit< tt
bit_figure_small Bchg k = upper (ltb k 16)

pub bit_small : (op : BitOp) (size : Size) (number d : ℕ) (f : Flags) → (bitop_of op size number d f).clocks < 2 ^ 8
unfolding bitop_of
bit_small op Byte number d f = lit< tt
bit_small op Word number d f = lit< tt
bit_small op Long number d f = bit_figure_small op (number % 32)

-- CHK
check_small : (c : Check) → chk_figure c < 2 ^ 8
check_small Pass = lit< tt
check_small Over = lit< tt
check_small Short = lit< tt
check_small Below = lit< tt

pub chk_small : (size : Size) (bound value : ℕ) (f : Flags) → (chk_of size bound value f).answer.clocks < 2 ^ 8
chk_small Byte bound value f = lit< tt
chk_small Word bound value f = check_small (check_of 16 bound value)
chk_small Long bound value f = lit< tt
