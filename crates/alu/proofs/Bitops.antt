-- The number with one bit made b, once over the bit's place k. What it is:
--     with_bit_lem                 bit k of it is b, and no other bit changes
--     with_own, with_twice     made what it is, nothing changes; of two, the last counts
--     with_lt                  it fits n bits if the number does and k is below n
-- and how a processor makes it, by one law of words and masks (`by_mask`):
--     set_bit, clear_bit, change_bit   `|`, `& !` and `^` with the weight of bit k
-- Assumes nothing.
use mathlib.Core.Path.{◌≡◌, refl, sym, ap, ap₂, ◌∙◌}
use mathlib.Core.Bool.{Bool, true, false, not, cond}
use Prim.Native.Nat.{ℕ, ◌+◌, ◌-◌, ◌*◌, ◌/◌, ◌%◌, ◌^◌, ◌≤◌, ◌<◌}
use native.Mathlib.Nat.{mod-eq_of_lt, mul-le-mul_right}
use native.Mathlib.Omega.{arith}
use native.Mathlib.Decide.{dec_lt}
use borrow.Author.Tests.{eq-eqb, ne_eqb}
use lib.Dec.{eqb, lit<}
use lib.Arith.{digits_lt}
use lib.Pow.{pow_pos, pow-add, high, split, shr-shr, shr_lt, shr_mod, ones_split}
use lib.Pow as pow
use lib.Bits.{bit_and, bit_or, bit_xor, and_block, or_block, xor_block, and_mask, or_zero_r, xor_zero_r}
use Rattle.alu.specs.Bits.{low, bit, digit, join, with_bit}
use Rattle.alu.proofs.Bounds.{digit_le, low_lt}
use Rattle.alu.proofs.Turns.{digit_lowest, is_digit, bit_low}

-- ---- the three parts

-- a digit and what is below it
digit_under : (k q s : ℕ) → q < 2 → s < 2 ^ k → q * 2 ^ k + s < 2 ^ (k + 1)
digit_under k q s q<2 s-low =
    let at_most : q * 2 ^ k ≤ 1 * 2 ^ k = mul-le-mul_right (2 ^ k) (omega arith) in omega (arith, pow-add 2 k 1)

under : (k : ℕ) (b : Bool) (x : ℕ) → join k (low k x) (digit b) < 2 ^ (k + 1)
under k b x = digit_under k (digit b) (low k x) (omega (arith, digit_le b)) (low_lt k x)

upper_part : (k : ℕ) (b : Bool) (x : ℕ) → with_bit k b x / 2 ^ (k + 1) ≡ x / 2 ^ (k + 1)
unfolding with_bit
upper_part k b x = high (x / 2 ^ (k + 1)) (k + 1) (under k b x)

-- from bit k on
from : (k : ℕ) (b : Bool) (x : ℕ) → with_bit k b x ≡ join k (low k x) (2 * (x / 2 ^ (k + 1)) + digit b)
unfolding with_bit
from k b x = omega (arith, ap (λ (m : ℕ). x / 2 ^ (k + 1) * m) (pow-add 2 k 1))

lower_part : (k : ℕ) (b : Bool) (x : ℕ) → low k (with_bit k b x) ≡ low k x
lower_part k b x = ap (low k) (from k b x) ∙ pow.low (2 * (x / 2 ^ (k + 1)) + digit b) k (low_lt k x)

at : (k : ℕ) (b : Bool) (x : ℕ) → bit k (with_bit k b x) ≡ b
at k b x =
    let h = x / 2 ^ (k + 1) in
    let moved : with_bit k b x / 2 ^ k ≡ 2 * h + digit b =
    ap (λ (t : ℕ). t / 2 ^ k) (from k b x) ∙ high (2 * h + digit b) k (low_lt k x) in
    let odd : with_bit k b x / 2 ^ k % 2 ≡ digit b = omega (arith, moved, digit_le b) in
    ap (λ (t : ℕ). eqb t 1) odd ∙ is_digit b

-- ---- every bit

-- a bit above k
other : (i k : ℕ) (b : Bool) (x : ℕ) → k < i → bit i (with_bit k b x) ≡ bit i x
other i k b x k<i =
    let e : k + 1 + (i - k - 1) ≡ i = omega arith in
    let j = i - k - 1 in
    let of : (v : ℕ) → v / 2 ^ i ≡ v / 2 ^ (k + 1) / 2 ^ j = λ v. sym (shr-shr v (k + 1) j ∙ ap (λ (m : ℕ). v / 2 ^ m) e) in
    ap (λ (t : ℕ). eqb (t % 2) 1) (of (with_bit k b x) ∙ ap (λ (t : ℕ). t / 2 ^ j) (upper_part k b x) ∙ sym (of x))

pub with_bit_lem : (i k : ℕ) (b : Bool) (x : ℕ) → bit i (with_bit k b x) ≡ cond (eqb i k) b (bit i x)
with_bit_lem i k b x = first (dec_lt i k) where
  Same : Type 0
  Same = bit i (with_bit k b x) ≡ cond (eqb i k) b (bit i x)

  lower : i < k → Same
  lower i<k =
      sym (bit_low i k (with_bit k b x) i<k) ∙ ap (bit i) (lower_part k b x) ∙ bit_low i k x i<k ∙
      ap (λ (t : Bool). cond t b (bit i x)) (sym (ne_eqb i k (omega arith)))

  upper : k < i → Same
  upper k<i = other i k b x k<i ∙ ap (λ (t : Bool). cond t b (bit i x)) (sym (ne_eqb i k (omega arith)))

  equal : i ≡ k → Same
  equal is = ap (λ (t : ℕ). bit t (with_bit k b x)) is ∙ at k b x ∙ ap (λ (t : Bool). cond t b (bit i x)) (sym (eq-eqb i k is))

  second : (i < k → ⊥) → Dec (k < i) → Same
  second not_lower (yes k<i) = upper k<i
  second not_lower (no not-upper) = equal (omega arith)

  first : Dec (i < k) → Same
  first (yes i<k) = lower i<k
  first (no not_lower) = second not_lower (dec_lt k i)

-- made what it is, nothing changes
pub with_own : (k x : ℕ) → with_bit k (bit k x) x ≡ x
with_own k x =
    let h = x / 2 ^ (k + 1) in
    let q = x / 2 ^ k in
    let half : h ≡ q / 2 = sym (shr-shr x k 1) in
    let d : digit (bit k x) ≡ q % 2 = digit_lowest q in
    let whole : 2 * h + digit (bit k x) ≡ q = omega (arith, half, d) in
    from k (bit k x) x ∙ ap (λ (t : ℕ). join k (low k x) t) whole ∙ split x k

-- of two, the last counts
pub with_twice : (k : ℕ) (b c : Bool) (x : ℕ) → with_bit k b (with_bit k c x) ≡ with_bit k b x
unfolding with_bit
with_twice k b c x = ap₂ (λ (lo hi : ℕ). join (k + 1) (join k lo (digit b)) hi) (lower_part k c x) (upper_part k c x)

pub with_lt : (n k : ℕ) (b : Bool) (x : ℕ) → k < n → x < 2 ^ n → with_bit k b x < 2 ^ n
unfolding with_bit
with_lt n k b x k<n x<n =
    let j = n - k - 1 in
    let e : j + (k + 1) ≡ n = omega arith in
    let m : 2 ^ j * 2 ^ (k + 1) ≡ 2 ^ n = sym (pow-add 2 j (k + 1)) ∙ ap (λ (t : ℕ). 2 ^ t) e in
    rw (← m) (digits_lt (shr_lt j (k + 1) (rw e x<n)) (under k b x))

-- ---- a word operation with a mask: p is the part of the mask above k, q its bit k, s the part below k

module _ (f : ℕ → ℕ → ℕ)
    (block : (k a b r s : ℕ) → r < 2 ^ k → s < 2 ^ k → f (a * 2 ^ k + r) (b * 2 ^ k + s) ≡ f a b * 2 ^ k + f r s) where
  by_mask :
      (k : ℕ) (b : Bool) (x p q s : ℕ) → q < 2 → s < 2 ^ k → f (x / 2 ^ (k + 1)) p ≡ x / 2 ^ (k + 1) →
      f (digit (bit k x)) q ≡ digit b → f (low k x) s ≡ low k x → f x (join (k + 1) (join k s q) p) ≡ with_bit k b x
  unfolding with_bit
  by_mask k b x p q s q<2 s-low upper here lower =
      let h = x / 2 ^ (k + 1) in
      let d = digit (bit k x) in
      let r = low k x in
      let inner : q * 2 ^ k + s < 2 ^ (k + 1) = digit_under k q s q<2 s-low in
      ap (λ (t : ℕ). f t (join (k + 1) (join k s q) p)) (sym (with_own k x)) ∙ block (k + 1) h p (join k r d) (q * 2 ^ k + s) (under k (bit k x) x) inner ∙
      ap₂ (λ (hi lo : ℕ). hi * 2 ^ (k + 1) + lo) upper (block k d q r s (low_lt k x) s-low ∙ ap₂ (λ (hi lo : ℕ). hi * 2 ^ k + lo) here lower)

-- the mask of one bit, and its complement in n bits
one_bit : (k : ℕ) → 2 ^ k ≡ join (k + 1) (join k 0 1) 0
one_bit k = omega arith

no_bit : (n k : ℕ) → k < n → 2 ^ n - 1 - 2 ^ k ≡ join (k + 1) (join k (2 ^ k - 1) 0) (2 ^ (n - k - 1) - 1)
no_bit n k k<n =
    let p = (2 ^ (n - k - 1) - 1) * 2 ^ (k + 1) in
    let e : n - k - 1 + (k + 1) ≡ n = omega arith in
    let ones : 2 ^ n - 1 ≡ p + (2 ^ (k + 1) - 1) = ap (λ (t : ℕ). 2 ^ t - 1) (sym e) ∙ ones_split (n - k - 1) (k + 1) in
    omega (arith, ones, pow-add 2 k 1, pow_pos k)

digit_or : (b : Bool) → bit_or (digit b) 1 ≡ digit true
digit_or true = refl
digit_or false = refl

digit_xor : (b : Bool) → bit_xor (digit b) 1 ≡ digit (not b)
digit_xor true = refl
digit_xor false = refl

digit_and : (b : Bool) → bit_and (digit b) 0 ≡ digit false
digit_and true = refl
digit_and false = refl

pub set_bit : (k x : ℕ) → bit_or x (2 ^ k) ≡ with_bit k true x
set_bit k x =
    ap (bit_or x) (one_bit k) ∙
    by_mask bit_or or_block k true x 0 1 0 (lit< tt) (pow_pos k) (or_zero_r (x / 2 ^ (k + 1))) (digit_or (bit k x)) (or_zero_r (low k x))

pub change_bit : (k x : ℕ) → bit_xor x (2 ^ k) ≡ with_bit k (not (bit k x)) x
change_bit k x =
    ap (bit_xor x) (one_bit k) ∙
    by_mask bit_xor xor_block k (not (bit k x)) x 0 1 0 (lit< tt) (pow_pos k) (xor_zero_r (x / 2 ^ (k + 1))) (digit_xor (bit k x))
    (xor_zero_r (low k x))

pub clear_bit : (n k x : ℕ) → k < n → x < 2 ^ n → bit_and x (2 ^ n - 1 - 2 ^ k) ≡ with_bit k false x
clear_bit n k x k<n x<n =
    let j = n - k - 1 in
    let e : j + (k + 1) ≡ n = omega arith in
    let upper : bit_and (x / 2 ^ (k + 1)) (2 ^ j - 1) ≡ x / 2 ^ (k + 1) = and_mask (x / 2 ^ (k + 1)) j ∙ shr_mod j (k + 1) (rw e x<n) in
    let lower : bit_and (low k x) (2 ^ k - 1) ≡ low k x = and_mask (low k x) k ∙ mod-eq_of_lt (low_lt k x) in
    ap (bit_and x) (no_bit n k k<n) ∙
    by_mask bit_and and_block k false x (2 ^ j - 1) 0 (2 ^ k - 1) (lit< tt) (omega (arith, pow_pos k)) upper (digit_and (bit k x)) lower
