-- Laws of a packed answer. Assumes nothing.
--     answer_fits   every figure of document 01 is below 2 ^ 8, so that the packed one is the whole figure; a result has 32 bits if the destination has
--     unpacked      a packed answer reads back: result, flags, figure, refusal number and class
--     call_reads    so does what `alu_call` answers
use Prim.Native.Nat.{ℕ, ◌+◌, ◌*◌, ◌/◌, ◌%◌, ◌^◌, ◌<◌, ◌≤◌}
use mathlib.Core.Path.{◌≡◌, refl, ap, ◌∙◌}
use mathlib.Core.Bool.{Bool, true, false, cond, false≢true}
use mathlib.Core.List.{List, [], ◌∷◌}
use native.Mathlib.Omega.{arith}
use lib.Dec.{eqb, lit<, lit≤}
use Rattle.alu.specs.declared.types.Size.{Size}
use Rattle.alu.specs.declared.types.Size.TheVariants.{Byte, Word, Long}
use Rattle.alu.specs.declared.types.Flags.{Flags}
use Rattle.alu.specs.declared.types.Answer.{Answer}
use Rattle.alu.specs.declared.types.Checked.{Checked}
use Rattle.alu.specs.declared.shift_rotate.ShiftOp.{ShiftOp}
use Rattle.alu.specs.declared.shift_rotate.ShiftOp.TheVariants.{Asl, Asr, Lsl, Lsr, Rol, Ror, Roxl, Roxr}
use Rattle.alu.specs.declared.bit_manip.BitOp.{BitOp}
use Rattle.alu.specs.declared.bit_manip.BitOp.TheVariants.{Btst, Bset, Bclr, Bchg}
use Rattle.alu.specs.Bits.{bits_of}
use Rattle.alu.specs.ConditionCodes.{flags_of, ccr_of}
use Rattle.alu.specs.Answers.{number_of, class_of, unless_byte}
use Rattle.alu.specs.Arith.{ext_of, chk_of}
use Rattle.alu.specs.Shifts.{shift_of}
use Rattle.alu.specs.Bitops.{bitop_of}
use Rattle.alu.proofs.Bounds.{number_le, class_le}
use Rattle.alu.proofs.Figures.{size_small, unless_small, shift_small, bit_small, chk_small}
use Rattle.alu.proofs.Codes.{ccr_le, flags_back}
use Rattle.alu.proofs.Masked.{hands_back, results}
use Rattle.std.specs.Prelude.{Option, Some, None}
use Rattle.calls.specs.Packed.{Row, two, check, operations, number_in, done, chosen, answer_of, asked_of, call_of, size_of, packed}

-- ---- what an operation answers fits its place: the figure, and the result where the destination d has 32 bits

abbrev pub FitsFrom : (d : ℕ) → Checked → Type 0
FitsFrom d k = (k.answer.clocks < 2 ^ 8) × (d < 2 ^ 32 → k.answer.result < 2 ^ 32)

abbrev RowFits : Row → Type 0
RowFits r = (size : Size) (s d : ℕ) (f : Flags) → FitsFrom d (done r size s d f)

data RowsFit : List Row → Type 0 where
  no_more : RowsFit []
  ◌and◌ : {r : Row} {rs : List Row} → RowFits r → RowsFit rs → RowsFit (r ∷ rs)

infixr 5 ◌and◌
long : (size : Size) (r : ℕ) → r < 2 ^ bits_of size → r < 2 ^ 32
long Byte r h = omega arith
long Word r h = omega arith
long Long r h = h

unless_result : (size : Size) (f : Flags) (a : Answer) → a.result < 2 ^ 32 → (unless_byte size f a).result < 2 ^ 32
unless_result Byte f a h = lit< tt
unless_result Word f a h = h
unless_result Long f a h = h

ext_result_lem : (size : Size) (d : ℕ) (f : Flags) → d < 2 ^ 32 → (ext_of size d f).result < 2 ^ 32
ext_result_lem Byte d f h = lit< tt
ext_result_lem Word d f h = results.ext_word_below d f h
ext_result_lem Long d f h = results.ext_long d f

-- shifts: by 0 four of them hand the destination back
handed : (op : ShiftOp) (size : Size) (count d : ℕ) (f : Flags) → hands_back op count ≡ true → (shift_of op size count d f).result ≡ d
unfolding shift_of
handed Asl size count d f e = rw e
handed Asr size count d f e = rw e
handed Lsl size count d f e = rw e
handed Lsr size count d f e = rw e
handed Rol size count d f e = absurd (false≢true e)
handed Ror size count d f e = absurd (false≢true e)
handed Roxl size count d f e = absurd (false≢true e)
handed Roxr size count d f e = absurd (false≢true e)

shift_result : (op : ShiftOp) (size : Size) (count d : ℕ) (f : Flags) → d < 2 ^ 32 → (shift_of op size count d f).result < 2 ^ 32
shift_result op size count d f h = go (hands_back op count) refl
  where
    go : (t : Bool) → hands_back op count ≡ t → (shift_of op size count d f).result < 2 ^ 32
    go true e = rw (handed op size count d f e) h
    go false e = long size (shift_of op size count d f).result (results.shift op size count d f e)

shift_fits : (n : ℕ) (op : ShiftOp) → RowFits (two n (shift_of op))
shift_fits n op size s d f = (shift_small op size s d f, λ h. shift_result op size s d f h)

bit_fits : (n : ℕ) (op : BitOp) → RowFits (two n (bitop_of op))
bit_fits n op size s d f = (bit_small op size s d f, λ h. results.bitop op size s d f h)

chk_result : (size : Size) (s d : ℕ) (f : Flags) → d < 2 ^ 32 → (chk_of size s d f).answer.result < 2 ^ 32
chk_result Byte s d f h = lit< tt
chk_result Word s d f h = h
chk_result Long s d f h = lit< tt

chk_fits : RowFits (check 0x1d chk_of)
chk_fits size s d f = (chk_small size s d f, chk_result size s d f)

-- the rows in their order
rows_fit : RowsFit operations
unfolding operations
rows_fit =
    (λ size s d f. (lit< tt, λ h. long size _ (results.add size s d f))) and
    (λ size s d f. (lit< tt, λ h. long size _ (results.sub size s d f))) and
    (λ size s d f. (lit< tt, λ h. h)) and
    (λ size s d f. (lit< tt, λ h. long size _ (results.addx size s d f))) and
    (λ size s d f. (lit< tt, λ h. long size _ (results.subx size s d f))) and
    (λ size s d f. (unless_small size f _ (lit< tt), λ h. results.adda size s d f)) and
    (λ size s d f. (unless_small size f _ (lit< tt), λ h. results.suba size s d f)) and
    (λ size s d f. (unless_small size f _ (lit< tt), λ h. unless_result size f _ h)) and
    (λ size s d f. (size_small size 8 (lit≤ tt), λ h. long size _ (results.addq size s d f))) and
    (λ size s d f. (size_small size 8 (lit≤ tt), λ h. long size _ (results.subq size s d f))) and
    (λ size s d f. (unless_small size f _ (lit< tt), λ h. results.addq_address size s d f)) and
    (λ size s d f. (unless_small size f _ (lit< tt), λ h. results.subq_address size s d f)) and
    (λ size s d f. (size_small size 6 (lit≤ tt), λ h. long size _ (results.clr size s d f))) and
    (λ size s d f. (size_small size 6 (lit≤ tt), λ h. long size _ (results.neg size s d f))) and
    (λ size s d f. (size_small size 6 (lit≤ tt), λ h. long size _ (results.negx size s d f))) and
    (λ size s d f. (size_small size 6 (lit≤ tt), λ h. long size _ (results.not size s d f))) and
    (λ size s d f. (unless_small size f _ (lit< tt), λ h. ext_result_lem size d f h)) and
    shift_fits 0x11 Asl and
    shift_fits 0x12 Asr and
    shift_fits 0x13 Lsl and
    shift_fits 0x14 Lsr and
    shift_fits 0x15 Rol and
    shift_fits 0x16 Ror and
    shift_fits 0x17 Roxl and
    shift_fits 0x18 Roxr and
    bit_fits 0x19 Btst and
    bit_fits 0x1a Bset and
    bit_fits 0x1b Bclr and
    bit_fits 0x1c Bchg and
    chk_fits and no_more

chosen_fits : (rows : List Row) → RowsFit rows → (op : ℕ) (size : Size) (s d : ℕ) (f : Flags) → FitsFrom d (chosen rows op size s d f)
unfolding chosen
chosen_fits [] no_more op size s d f = (lit< tt, λ h. lit< tt)
chosen_fits (r ∷ rs) (fits and more) op size s d f = go (eqb op (number_in r)) (chosen_fits rs more op size s d f)
  where
    go : (t : Bool) → FitsFrom d (chosen rs op size s d f) → FitsFrom d (cond t (done r size s d f) (chosen rs op size s d f))
    go true k = fits size s d f
    go false k = k

pub answer_fits : (op : ℕ) (size : Size) (s d : ℕ) (f : Flags) → FitsFrom d (answer_of op size s d f)
answer_fits op size s d f = chosen_fits operations rows_fit op size s d f

-- ---- there and back

-- the parts of a packed answer n
pub record Reads (k : Checked) (n : ℕ) : Type 0 where
  pub result : n % 2 ^ 32 ≡ k.answer.result
  pub flags : flags_of (n / 2 ^ 32 % 2 ^ 8) ≡ k.answer.flags
  pub clocks : n / 2 ^ 40 % 2 ^ 8 ≡ k.answer.clocks
  pub number : n / 2 ^ 48 % 2 ^ 2 ≡ number_of k.answer.verdict
  pub class : n / 2 ^ 52 % 2 ^ 2 ≡ class_of k.check

-- what stands in a place comes out of it. The numbers are the powers of 2, as they compute
abbrev laid : (a b c d e : ℕ) → ℕ
laid a b c d e = a + b * 4294967296 + c * 1099511627776 + d * 281474976710656 + e * 4503599627370496

part_0 : (a b c d e : ℕ) → a < 4294967296 → laid a b c d e % 4294967296 ≡ a
part_0 a b c d e h = omega arith

part_1 : (a b c d e : ℕ) → a < 4294967296 → b ≤ 31 → laid a b c d e / 4294967296 % 256 ≡ b
part_1 a b c d e h i = omega arith

part_2 : (a b c d e : ℕ) → a < 4294967296 → b ≤ 31 → c < 256 → laid a b c d e / 1099511627776 % 256 ≡ c
part_2 a b c d e h i j = omega arith

part_3 : (a b c d e : ℕ) → a < 4294967296 → b ≤ 31 → c < 256 → d ≤ 2 → laid a b c d e / 281474976710656 % 4 ≡ d
part_3 a b c d e h i j k = omega arith

part_4 : (a b c d e : ℕ) → a < 4294967296 → b ≤ 31 → c < 256 → d ≤ 2 → e ≤ 3 → laid a b c d e / 4503599627370496 % 4 ≡ e
part_4 a b c d e h i j k l = omega arith

pub unpacked : (k : Checked) → k.answer.result < 2 ^ 32 → k.answer.clocks < 2 ^ 8 → Reads k (packed k)
unpacked k r c =
    let a = k.answer in
    let f = ccr_le a.flags in
    let v = number_le a.verdict in
    let small : a.clocks % 256 ≡ a.clocks = omega arith in
    rw small (record {
      result = part_0 a.result (ccr_of a.flags) a.clocks (number_of a.verdict) (class_of k.check) r;
      flags = ap flags_of (part_1 a.result (ccr_of a.flags) a.clocks (number_of a.verdict) (class_of k.check) r f) ∙ flags_back a.flags;
      clocks = part_2 a.result (ccr_of a.flags) a.clocks (number_of a.verdict) (class_of k.check) r f c;
      number = part_3 a.result (ccr_of a.flags) a.clocks (number_of a.verdict) (class_of k.check) r f c v;
      class = part_4 a.result (ccr_of a.flags) a.clocks (number_of a.verdict) (class_of k.check) r f c v (class_le k.check);
    })

asked_fits : (op : ℕ) (found : Option Size) (s d : ℕ) (f : Flags) → FitsFrom d (asked_of op found s d f)
asked_fits op (Some size) s d f = answer_fits op size s d f
asked_fits op None s d f = (lit< tt, λ h. lit< tt)

pub call_reads : (op size s d ccr : ℕ) → d < 2 ^ 32 → Reads (asked_of op (size_of size) s d (flags_of ccr)) (call_of op size s d ccr)
call_reads op size s d ccr h =
    let fits = asked_fits op (size_of size) s d (flags_of ccr) in unpacked (asked_of op (size_of size) s d (flags_of ccr)) (fits.1 h) fits.0
