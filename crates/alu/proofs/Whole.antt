-- The sum and the difference in n bits, as the code works them out:
--     sum_whole, difference_whole      taken of whole operands and cut once at the end
--     difference_masked                of masked operands
--     wrapping_sum, wrapping_difference  of words, as std's wrapping sum and difference
--     add_worked, sub_worked           V as the top bit of a word of masked operands, C by one comparison
-- Assumes nothing.
use mathlib.Core.Path.{◌≡◌, ◌∙◌, ap, ap₂, sym}
use mathlib.Core.Bool.{Bool, false}
use Prim.Native.Nat.{ℕ, ◌+◌, ◌-◌, ◌*◌, ◌/◌, ◌%◌, ◌^◌, ◌≤◌, ◌<◌}
use native.Mathlib.Nat.{add-zero, mod-lt, mod-mod, mod-add-mod, div-add-mod', div-lt_iff_lt-mul, mul-add-mod_self_right, pow-le-pow_right}
use native.Mathlib.Omega.{arith}
use lib.Dec.{leb, ltb, lit<}
use lib.Pow.{pow_pos, pow-add, suc_ones}
use lib.Bits.{bit_and, bit_xor}
use Rattle.alu.specs.declared.types.Size.{Size}
use Rattle.alu.specs.declared.types.Size.TheVariants.{Long}
use Rattle.alu.specs.Bits.{bits_of, low, top, digit}
use Rattle.alu.specs.ConditionCodes.{add_v, add_flags, sub_flags}
use Rattle.alu.specs.Arith.{sum, difference}
use Rattle.alu.specs.Places.{summed, added, subtracted}
use Rattle.alu.proofs.Bounds.{digit_le, low_lt, bits_le}
use Rattle.alu.proofs.Formulas.{overflow_word, swap_v}
use Rattle.alu.proofs.Laws.{add_carry, sub_borrow}
use Rattle.alu.proofs.Turns.{top_low}

pub sum_whole : (n s d : ℕ) (x : Bool) → sum n s d x ≡ (d + s + digit x) % 2 ^ n
unfolding sum
sum_whole n s d x = cut (2 ^ n) (digit x) where
  cut : (N k : ℕ) → (d % N + s % N + k) % N ≡ (d + s + k) % N
  cut N k =
      ap (λ (t : ℕ). t % N) (omega arith) ∙ mod-add-mod d N (s % N + k) ∙ ap (λ (t : ℕ). t % N) (omega arith) ∙ mod-add-mod s N (d + k) ∙
      ap (λ (t : ℕ). t % N) (omega arith)

-- k * N + d - s - x, where k * N is above s
borrowed :
    (N k s d x : ℕ) → 0 < N → s < k * N → x ≤ 1 → (k * N + d - (s + x)) % N ≡ (N + d % N - (s % N + x)) % N
borrowed N k s d x N-pos s<kN x≤1 =
    let q = s / N in
    let q<k : q < k = (div-lt_iff_lt-mul N-pos).1 s<kN in
    let j = k - q - 1 in
    let k-is : k ≡ j + q + 1 = omega arith in
    let whole : k * N + d - (s + x) ≡ (j + d / N) * N + (N + d % N - (s % N + x)) =
    omega (arith, ap (λ (t : ℕ). t * N) k-is, div-add-mod' d N, div-add-mod' s N, mod-lt s N-pos) in
    rw whole (mul-add-mod_self_right (j + d / N) N (N + d % N - (s % N + x)))

pub difference_whole :
    (size : Size) (s d : ℕ) (x : Bool) → s < 2 ^ 32 → difference (bits_of size) s d x ≡ (2 ^ 32 + d - (s + digit x)) % 2 ^ bits_of size
unfolding difference
difference_whole size s d x s-low =
    let n = bits_of size in
    let parts : 32 ≡ 32 - n + n = omega (arith, bits_le size) in
    let split : 2 ^ 32 ≡ 2 ^ (32 - n) * 2 ^ n = ap (λ (e : ℕ). 2 ^ e) parts ∙ pow-add 2 (32 - n) n in
    let s-low' : s < 2 ^ (32 - n) * 2 ^ n = rw split at s-low in
    sym (rw split (borrowed (2 ^ n) (2 ^ (32 - n)) s d (digit x) (pow_pos n) s-low' (digit_le x)))

pub difference_masked :
    (size : Size) (s d : ℕ) (x : Bool) → let n = bits_of size in (2 ^ 32 + low n d - (low n s + digit x)) % 2 ^ n ≡ difference n s d x
unfolding difference
difference_masked size s d x =
    let n = bits_of size in
    let few : 2 ^ n ≤ 2 ^ 32 = pow-le-pow_right (lit< tt) (bits_le size) in
    let s-low : low n s < 2 ^ 32 = omega (arith, low_lt n s) in
    sym (difference_whole size (low n s) (low n d) x s-low) ∙ rw (mod-mod s (2 ^ n), mod-mod d (2 ^ n))

-- of whole operands in 32 bits, as std's wrapping sum and difference
pub wrapping_sum : (s d : ℕ) → (d + s) % 2 ^ 32 ≡ sum 32 s d false
wrapping_sum s d = sym (sum_whole 32 s d false ∙ ap (λ (t : ℕ). t % 2 ^ 32) (add-zero (d + s)))

pub wrapping_difference : (s d : ℕ) → s < 2 ^ 32 → (d + (2 ^ 32 - s)) % 2 ^ 32 ≡ difference 32 s d false
wrapping_difference s d s-low =
    sym (difference_whole Long s d false s-low ∙ ap (λ (t : ℕ). t % 2 ^ 32) (let e : 2 ^ 32 + d - (s + 0) ≡ d + (2 ^ 32 - s) = omega arith in e))

-- ---- with their flags

module _ (n : ℕ) (positive : 0 < n) (src dst : ℕ) (x : Bool) where
  abbrev s : ℕ
  s = low n src

  abbrev d : ℕ
  d = low n dst

  -- the whole sum is above n set bits where it has more
  pub add_worked :
      let r = sum n src dst x in
      summed n r (top n (bit_and (bit_xor s r) (bit_xor d r))) (ltb (2 ^ n - 1) (d + s + digit x)) ≡ added n src dst x
  unfolding add_flags
  add_worked =
      let r = sum n src dst x in
      ap₂ (summed n r) (overflow_word n s d r ∙ ap₂ (λ (p q : Bool). add_v p q (top n r)) (top_low n src positive) (top_low n dst positive))
      (ap (λ (m : ℕ). leb m (d + s + digit x)) (suc_ones n) ∙ sym (add_carry n positive src dst x))

  pub sub_worked :
      let r = difference n src dst x in
      summed n r (top n (bit_and (bit_xor s d) (bit_xor r d))) (ltb d (s + digit x)) ≡ subtracted n src dst x
  unfolding sub_flags
  sub_worked =
      let r = difference n src dst x in
      ap₂ (summed n r)
      (overflow_word n s r d ∙ ap₂ (λ (p q : Bool). add_v p (top n r) q) (top_low n src positive) (top_low n dst positive) ∙
      swap_v (top n src) (top n dst) (top n r))
      (sym (sub_borrow n positive src dst x))
