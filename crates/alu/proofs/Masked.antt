-- Document 01: "Unless said, a result is masked to its size; EXT word returns all 32 bits, the upper half kept; CMP, CMPA, BTST and CHK return the
-- destination as handed in".
--     Results      this sentence, of each operation, whatever its operands. A refused operation's result is 0, so that the bounds hold of it too
--     results      it holds
--     turns_lt     an operand of n bits has n bits after any number of single positions, for any n
-- That the four shifts by 0 return the value unmasked is `by_zero` and `mod_64` of Counts. Assumes nothing.
use mathlib.Core.Path.{◌≡◌, refl}
use mathlib.Core.Bool.{Bool, true, false, cond}
use Prim.Native.Nat.{ℕ, zero, suc, ◌-◌, ◌/◌, ◌%◌, ◌^◌, ◌<◌}
use native.Mathlib.Nat.{mod-lt}
use native.Mathlib.Omega.{arith}
use lib.Dec.{eqb, ltb, lit<, lit≤}
use lib.Pow.{pow_pos, high}
use lib.Pow as pow
use Rattle.alu.specs.declared.types.Size.{Size}
use Rattle.alu.specs.declared.types.Size.TheVariants.{Byte, Word, Long}
use Rattle.alu.specs.declared.types.Flags.{Flags}
use Rattle.alu.specs.declared.types.Answer.{Answer}
use Rattle.alu.specs.declared.shift_rotate.Held.{Held}
use Rattle.alu.specs.declared.shift_rotate.ShiftOp.{ShiftOp}
use Rattle.alu.specs.declared.shift_rotate.ShiftOp.TheVariants.{Asl, Asr, Lsl, Lsr, Rol, Ror, Roxl, Roxr}
use Rattle.alu.specs.declared.bit_manip.BitOp.{BitOp}
use Rattle.alu.specs.declared.bit_manip.BitOp.TheVariants.{Btst, Bset, Bclr, Bchg}
use Rattle.alu.specs.Bits.{bits_of, low, lowest, top, extended}
use Rattle.alu.specs.Answers.{unless_byte}
use Rattle.alu.specs.Arith.{add_of, addx_of, sub_of, subx_of, cmp_of, neg_of, negx_of, addq_of, subq_of, addq_address_of, subq_address_of, address_source, adda_of, suba_of, cmpa_of, clr_of, not_of, ext_of, chk_of}
use Rattle.alu.specs.Shifts.{right, turn, turns, start, moved, shift_of}
use Rattle.alu.specs.Bitops.{bitop_of}
use Rattle.alu.proofs.Bounds.{bits_pos, low_lt}
use Rattle.alu.proofs.Signed.{pow_half}
use Rattle.alu.proofs.Laws.{sum_lt, difference_lt}
use Rattle.alu.proofs.Extension.{extended_lt}
use Rattle.alu.proofs.Turns.{digit_times}
use Rattle.alu.proofs.Bitops.{with_lt}

-- the value comes back as it was handed in, unmasked: the four shifts by 0
abbrev pub hands_back : ShiftOp → (count : ℕ) → Bool
hands_back Asl count = eqb (count % 64) 0
hands_back Asr count = eqb (count % 64) 0
hands_back Lsl count = eqb (count % 64) 0
hands_back Lsr count = eqb (count % 64) 0
hands_back Rol count = false
hands_back Ror count = false
hands_back Roxl count = false
hands_back Roxr count = false

-- the result of an operation has the size's bits; it has 32
abbrev pub Masked : (Size → (s d : ℕ) → Flags → Answer) → Type 0
Masked op = (size : Size) (s d : ℕ) (f : Flags) → (op size s d f).result < 2 ^ bits_of size

abbrev pub Whole : (Size → (s d : ℕ) → Flags → Answer) → Type 0
Whole op = (size : Size) (s d : ℕ) (f : Flags) → (op size s d f).result < 2 ^ 32

pub record Results : Type 0 where
  pub add : Masked add_of
  pub addx : Masked addx_of
  pub addq : Masked addq_of
  pub sub : Masked sub_of
  pub subx : Masked subx_of
  pub subq : Masked subq_of
  pub neg : Masked (λ size s d f. neg_of size d f)
  pub negx : Masked (λ size s d f. negx_of size d f)
  pub clr : Masked (λ size s d f. clr_of size f)
  pub not : Masked (λ size s d f. not_of size d f)
  pub shift : (op : ShiftOp) (size : Size) (count value : ℕ) (f : Flags) → hands_back op count ≡ false → (shift_of op size count value f).result < 2 ^ bits_of size
  pub adda : Whole adda_of
  pub suba : Whole suba_of
  pub addq_address : Whole addq_address_of
  pub subq_address : Whole subq_address_of
  pub bitop : (op : BitOp) (size : Size) (number d : ℕ) (f : Flags) → d < 2 ^ 32 → (bitop_of op size number d f).result < 2 ^ 32
  pub ext_long : (d : ℕ) (f : Flags) → (ext_of Long d f).result < 2 ^ 32
  pub ext_word : (d : ℕ) (f : Flags) → let r = (ext_of Word d f).result in (low 16 r ≡ extended 8 16 d) × (r / 2 ^ 16 ≡ d / 2 ^ 16)
  pub ext_word_below : (d : ℕ) (f : Flags) → d < 2 ^ 32 → (ext_of Word d f).result < 2 ^ 32
  pub cmp : (size : Size) (s d : ℕ) (f : Flags) → (cmp_of size s d f).result ≡ d
  pub cmpa : (s d : ℕ) (f : Flags) → ((cmpa_of Word s d f).result ≡ d) × ((cmpa_of Long s d f).result ≡ d)
  pub btst : (number d : ℕ) (f : Flags) → (bitop_of Btst Long number d f).result ≡ d
  pub chk : (bound value : ℕ) (f : Flags) → (chk_of Word bound value f).answer.result ≡ value

-- ---- shifts and rotates

right_lt : (n : ℕ) (b : Bool) (v : ℕ) → 0 < n → v < 2 ^ n → (right n b v).value < 2 ^ n
right_lt n b v positive l = omega (arith, pow_half n positive, digit_times b (2 ^ (n - 1)))

turn_lt : (op : ShiftOp) (n : ℕ) (h : Held) → 0 < n → h.value < 2 ^ n → (turn op n h).value < 2 ^ n
unfolding turn
turn_lt Asl n h positive l = low_lt n _
turn_lt Asr n h positive l = right_lt n (top n h.value) h.value positive l
turn_lt Lsl n h positive l = low_lt n _
turn_lt Lsr n h positive l = right_lt n false h.value positive l
turn_lt Rol n h positive l = low_lt n _
turn_lt Ror n h positive l = right_lt n (lowest h.value) h.value positive l
turn_lt Roxl n h positive l = low_lt n _
turn_lt Roxr n h positive l = right_lt n h.out h.value positive l

pub turns_lt : (op : ShiftOp) (n k : ℕ) (h : Held) → 0 < n → h.value < 2 ^ n → (turns op n k h).value < 2 ^ n
unfolding turns
turns_lt op n zero h positive l = l
turns_lt op n (suc k) h positive l = turn_lt op n (turns op n k h) positive (turns_lt op n k h positive l)

moved_lt : (op : ShiftOp) (size : Size) (k value : ℕ) (x : Bool) → (moved op (bits_of size) k value x).value < 2 ^ bits_of size
moved_lt op size k value x = turns_lt op (bits_of size) k (start (bits_of size) value x) (bits_pos size) (low_lt (bits_of size) value)

either_lt : (refused : Bool) (a c : Answer) (m : ℕ) → a.result < m → c.result < m → (cond refused a c).result < m
either_lt true a c m l r = l
either_lt false a c m l r = r

shift_lt : (op : ShiftOp) (size : Size) (count value : ℕ) (f : Flags) → hands_back op count ≡ false → (shift_of op size count value f).result < 2 ^ bits_of size
unfolding shift_of
shift_lt Asl size count value f e = rw e (moved_lt Asl size (count % 64) value f.x)
shift_lt Asr size count value f e = rw e (moved_lt Asr size (count % 64) value f.x)
shift_lt Lsl size count value f e = rw e (moved_lt Lsl size (count % 64) value f.x)
shift_lt Lsr size count value f e = rw e (moved_lt Lsr size (count % 64) value f.x)
shift_lt Rol size count value f e = moved_lt Rol size (count % 64) value f.x
shift_lt Ror size count value f e = moved_lt Ror size (count % 64) value f.x
shift_lt Roxl size count value f e = either_lt (ltb 63 count) _ _ _ (pow_pos (bits_of size)) (moved_lt Roxl size count value f.x)
shift_lt Roxr size count value f e = either_lt (ltb 63 count) _ _ _ (pow_pos (bits_of size)) (moved_lt Roxr size count value f.x)

-- ---- 32 bits

unless_lt : (size : Size) (f : Flags) (a : Answer) → a.result < 2 ^ 32 → (unless_byte size f a).result < 2 ^ 32
unless_lt Byte f a l = pow_pos 32
unless_lt Word f a l = l
unless_lt Long f a l = l

bitop_lt : (op : BitOp) (size : Size) (number d : ℕ) (f : Flags) → d < 2 ^ 32 → (bitop_of op size number d f).result < 2 ^ 32
unfolding bitop_of
bitop_lt op Byte number d f l = pow_pos 32
bitop_lt op Word number d f l = pow_pos 32
bitop_lt Btst Long number d f l = l
bitop_lt Bset Long number d f l = with_lt 32 (number % 32) _ d (mod-lt number (lit< tt)) l
bitop_lt Bclr Long number d f l = with_lt 32 (number % 32) _ d (mod-lt number (lit< tt)) l
bitop_lt Bchg Long number d f l = with_lt 32 (number % 32) _ d (mod-lt number (lit< tt)) l

pub results : Results
unfolding bitop_of
results =
    record {
      add = λ size s d f. sum_lt (bits_of size) s d false;
      addx = λ size s d f. sum_lt (bits_of size) s d f.x;
      addq = λ size s d f. sum_lt (bits_of size) s d false;
      sub = λ size s d f. difference_lt (bits_of size) s d false;
      subx = λ size s d f. difference_lt (bits_of size) s d f.x;
      subq = λ size s d f. difference_lt (bits_of size) s d false;
      neg = λ size s d f. difference_lt (bits_of size) d 0 false;
      negx = λ size s d f. difference_lt (bits_of size) d 0 f.x;
      clr = λ size s d f. pow_pos (bits_of size);
      not = λ size s d f. omega (arith, pow_pos (bits_of size));
      shift = shift_lt;
      adda = λ size s d f. unless_lt size f _ (sum_lt 32 (address_source size s) d false);
      suba = λ size s d f. unless_lt size f _ (difference_lt 32 (address_source size s) d false);
      addq_address = λ size s d f. unless_lt size f _ (sum_lt 32 s d false);
      subq_address = λ size s d f. unless_lt size f _ (difference_lt 32 s d false);
      bitop = bitop_lt;
      ext_long = λ d f. extended_lt 16 32 (lit< tt) (lit≤ tt) d;
      ext_word = λ d f. let l = extended_lt 8 16 (lit< tt) (lit≤ tt) d in (pow.low (d / 2 ^ 16) 16 l, high (d / 2 ^ 16) 16 l);
      ext_word_below = λ d f h. omega (arith, extended_lt 8 16 (lit< tt) (lit≤ tt) d);
      cmp = λ size s d f. refl;
      cmpa = λ s d f. (refl, refl);
      btst = λ number d f. refl;
      chk = λ bound value f. refl;
    }
