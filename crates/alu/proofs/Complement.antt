-- What NOT does in n bits:
--     complement_bit           each of the n bits is turned over
--     complement_difference    it is 0 - d - 1, so a negation less 1
--     complement_join          of two parts it is the complement of the whole: no carry goes between them
--     complement_whole         of a whole operand, cut once at the end
-- Assumes nothing.
use mathlib.Core.Path.{◌≡◌, ◌∙◌, ap, sym, refl}
use mathlib.Core.Bool.{true, not}
use Prim.Native.Nat.{ℕ, ◌+◌, ◌-◌, ◌*◌, ◌/◌, ◌%◌, ◌^◌, ◌<◌}
use native.Mathlib.Nat.{mod-lt, mod-eq_of_lt, div-add-mod', mul_comm}
use native.Mathlib.Omega.{arith}
use lib.Dec.{eqb}
use lib.Pow.{pow_pos, pow-add, high, shr_lt}
use Rattle.alu.specs.declared.types.Size.{Size}
use Rattle.alu.specs.Bits.{bits_of, low, bit, join, complement}
use Rattle.alu.specs.Arith.{difference}
use Rattle.alu.proofs.Bounds.{low_lt, below_2}
use Rattle.alu.proofs.Signed.{pow_half}
use Rattle.alu.proofs.Turns.{bit_low}
use Rattle.alu.proofs.Wide.{join_low}
use Rattle.alu.proofs.Whole.{difference_whole}

-- a number of digits q and e turned over, digit by digit
parts : (J K q e : ℕ) → q < J → e < K → J * K - 1 - (q * K + e) ≡ (J - 1 - q) * K + (K - 1 - e)
parts J K q e q<J e<K =
    let i = J - 1 - q in
    let is : J ≡ i + 1 + q = omega arith in
    omega (arith, ap (λ (t : ℕ). t * K) is)

flipped : (r : ℕ) → r < 2 → eqb (1 - r) 1 ≡ not (eqb r 1)
flipped = below_2 (λ r. eqb (1 - r) 1 ≡ not (eqb r 1)) refl refl

pub complement_bit : (k n d : ℕ) → k < n → bit k (complement n d) ≡ not (bit k d)
complement_bit k n d k<n =
    ap (λ (t : ℕ). eqb t 1) odd ∙ flipped (low n d / 2 ^ k % 2) (omega arith) ∙ ap not (bit_low k n d k<n) where
      j : ℕ
      j = n - k

      split : 2 ^ n ≡ 2 ^ j * 2 ^ k
      split = let parts : n ≡ n - k + k = omega arith in ap (λ (e : ℕ). 2 ^ e) parts ∙ pow-add 2 (n - k) k

      few : low n d / 2 ^ k < 2 ^ j
      few = shr_lt j k (let parts : n - k + k ≡ n = omega arith in rw parts (low_lt n d))

      moved : complement n d / 2 ^ k ≡ 2 ^ j - 1 - low n d / 2 ^ k
      moved =
          let q = low n d / 2 ^ k in
          let e = low n d % 2 ^ k in
          let whole : complement n d ≡ (2 ^ j - 1 - q) * 2 ^ k + (2 ^ k - 1 - e) =
          ap (λ (t : ℕ). t - 1 - low n d) split ∙ ap (λ (t : ℕ). 2 ^ j * 2 ^ k - 1 - t) (sym (div-add-mod' (low n d) (2 ^ k))) ∙
          parts (2 ^ j) (2 ^ k) q e few (mod-lt (low n d) (pow_pos k)) in
          rw whole (high (2 ^ j - 1 - q) k (omega (arith, pow_pos k)))

      odd : complement n d / 2 ^ k % 2 ≡ 1 - low n d / 2 ^ k % 2
      odd =
          let h = 2 ^ (j - 1) in
          let twice : 2 ^ j ≡ 2 * h = pow_half j (omega arith) in
          rw moved (omega (arith, few, twice))

pub complement_difference : (n d : ℕ) → complement n d ≡ difference n d 0 true
unfolding difference
complement_difference n d =
    let none : 0 % 2 ^ n ≡ 0 = mod-eq_of_lt (pow_pos n) in
    let whole : 2 ^ n + 0 % 2 ^ n - (low n d + 1) ≡ 2 ^ n - 1 - low n d = rw none (omega arith) in
    sym (rw whole (mod-eq_of_lt (omega (arith, pow_pos n))))

pub complement_join : (n m a b : ℕ) → a < 2 ^ n → join n (complement n a) (complement m b) ≡ complement (n + m) (join n a b)
complement_join n m a b a-low =
    let whole : 2 ^ (n + m) ≡ 2 ^ m * 2 ^ n = pow-add 2 n m ∙ mul_comm (2 ^ n) (2 ^ m) in
    rw (join_low n m a-low b, whole, mod-eq_of_lt a-low) (sym (parts (2 ^ m) (2 ^ n) (low m b) a (low_lt m b) a-low))

pub complement_whole : (size : Size) (d : ℕ) → d < 2 ^ 32 → complement (bits_of size) d ≡ (2 ^ 32 - 1 - d) % 2 ^ bits_of size
complement_whole size d d-low =
    let one : 2 ^ 32 + 0 - (d + 1) ≡ 2 ^ 32 - 1 - d = omega arith in
    complement_difference (bits_of size) d ∙ difference_whole size d 0 true d-low ∙ ap (λ (t : ℕ). t % 2 ^ bits_of size) one
