-- V and LT in the integers, proved once over the number n of bits:
--     add_overflow, sub_overflow   V: the true signed sum, difference, doesn't fit n bits
--     add_signed, sub_signed       where V is clear the result reads as the true signed sum, difference
--     sub_less                     the condition LT after d - s: d is below s
--     signed_raised                `raised` is the signed reading, raised by 2 ^ (n - 1)
--     signed_less, signed_minus    so it compares and subtracts alike; signed_below_zero: 0 stands at 2 ^ (n - 1)
--     signed_sign                  the top bit tells whether the reading is below 0
-- Assumes nothing.
use mathlib.Core.Path.{◌≡◌, ◌∙◌, ap, sym}
use mathlib.Core.Bool.{Bool, true, false, not}
use Prim.Native.Nat.{ℕ, ◌+◌, ◌-◌, ◌*◌, ◌^◌, ◌<◌}
use native.Mathlib.Omega.{arith}
use lib.Dec.{ltb}
use borrow.Author.Tests.{lt-ltb, le-ltb}
use lib.IntN.{pos, ◌-ℤ◌}
use lib.Signed.{lt_z}
use Rattle.alu.specs.Bits.{low, top, raised, signed, fits, digit}
use Rattle.alu.specs.ConditionCodes.{is_lt, add_flags, sub_flags}
use Rattle.alu.specs.Arith.{sum, difference, true_sum, true_difference}
use Rattle.alu.proofs.Signed.{Reads, reads, pow_half}
use Rattle.alu.proofs.Minus.{minus, minus_add, minus_zero, zero_minus, minus_back, minus_same, ltb_same, minus_less, no_fit}
use Rattle.alu.proofs.Laws.{add_raised, add_overflow_raised, sub_raised, sub_overflow_raised, sub_less_raised}

-- ---- the signed reading

-- `raised` is the signed reading, raised by 2 ^ (n - 1)
pub signed_raised : (n : ℕ) → 0 < n → (x : ℕ) → signed n x ≡ pos (raised n x) -ℤ pos (2 ^ (n - 1))
unfolding signed
signed_raised n positive x =
    minus_same (low n x) (digit (top n x) * 2 ^ n) (raised n x) (2 ^ (n - 1))
    (sym (reads n positive x).again ∙ ap (λ (k : ℕ). raised n x + digit (top n x) * k) (sym (pow_half n positive)))

-- signed readings compare as the raised ones do, with 0 as with 2 ^ (n - 1)
pub signed_less : (n : ℕ) → 0 < n → (x y : ℕ) → lt_z (signed n x) (signed n y) ≡ ltb (raised n x) (raised n y)
signed_less n positive x y =
    let h = 2 ^ (n - 1) in
    rw (signed_raised n positive x, signed_raised n positive y, minus_less (raised n x) h (raised n y) h)
    (ltb_same (raised n x + h) (raised n y + h) (raised n x) (raised n y) (λ l. omega arith) (λ l. omega arith))

pub signed_below_zero : (n : ℕ) → 0 < n → (x : ℕ) → lt_z (signed n x) (pos 0) ≡ ltb (raised n x) (2 ^ (n - 1))
signed_below_zero n positive x =
    let h = 2 ^ (n - 1) in
    rw (signed_raised n positive x, ← (minus_zero 0), minus_less (raised n x) h 0 0)
    (ltb_same (raised n x + 0) (0 + h) (raised n x) h (λ l. omega arith) (λ l. omega arith))

-- the top bit is the sign
pub signed_sign : (n : ℕ) → 0 < n → (x : ℕ) → lt_z (signed n x) (pos 0) ≡ top n x
signed_sign n positive x = signed_below_zero n positive x ∙ in_half (top n x) (reads n positive x) where
  in_half : (b : Bool) → Reads (2 ^ (n - 1)) b (low n x) (raised n x) → ltb (raised n x) (2 ^ (n - 1)) ≡ b
  in_half true r = lt-ltb (raised n x) (2 ^ (n - 1)) (omega (arith, r.again, r.below))
  in_half false r = le-ltb (raised n x) (2 ^ (n - 1)) (omega (arith, r.again))

-- and the difference of two is that of the raised ones
pub signed_minus : (n : ℕ) → 0 < n → (s d : ℕ) → signed n d -ℤ signed n s ≡ minus (raised n d) (raised n s)
signed_minus n positive s d =
    let h = 2 ^ (n - 1) in
    rw (signed_raised n positive s, signed_raised n positive d, minus_back (raised n s) h)
    (minus_add (raised n d) h h (raised n s) ∙ minus_same (raised n d + h) (h + raised n s) (raised n d) (raised n s) (omega arith))

module _ (n : ℕ) (positive : 0 < n) (s d : ℕ) (x : Bool) where
  sum_raised : true_sum n s d x ≡ minus (raised n s + raised n d + digit x) (2 ^ (n - 1) + 2 ^ (n - 1) + 0)
  sum_raised =
      let h = 2 ^ (n - 1) in
      rw (signed_raised n positive s, signed_raised n positive d, ← (minus_zero (digit x)), minus_add (raised n s) h (raised n d) h)
      (minus_add (raised n s + raised n d) (h + h) (digit x) 0)

  difference_raised : true_difference n s d x ≡ minus (raised n d) (raised n s + digit x)
  difference_raised =
      rw (signed_minus n positive s d, ← (zero_minus (digit x)))
      (minus_add (raised n d) (raised n s) 0 (digit x) ∙ minus_same (raised n d + 0) (raised n s + digit x) (raised n d) (raised n s + digit x) (omega arith))

  pub add_overflow : (add_flags n s d (sum n s d x)).v ≡ not (fits n (true_sum n s d x))
  add_overflow =
      let h = 2 ^ (n - 1) in
      let t = raised n s + raised n d + digit x in
      let under : ltb (t + h) (h + h + 0) ≡ ltb t h = ltb_same (t + h) (h + h + 0) t h (λ l. omega arith) (λ l. omega arith) in
      let past : h + h + 0 + h ≡ 3 * h = omega arith in
      add_overflow_raised n positive s d x ∙ rw sum_raised (sym (no_fit n t (h + h + 0) ∙ rw (under, past)))

  pub add_signed : (add_flags n s d (sum n s d x)).v ≡ false → signed n (sum n s d x) ≡ true_sum n s d x
  add_signed clear =
      let h = 2 ^ (n - 1) in
      let reads_so : raised n (sum n s d x) + h ≡ raised n s + raised n d + digit x = add_raised n positive s d x clear in
      signed_raised n positive (sum n s d x) ∙
      minus_same (raised n (sum n s d x)) h (raised n s + raised n d + digit x) (h + h + 0) (omega arith) ∙ sym sum_raised

  pub sub_overflow : (sub_flags n s d (difference n s d x)).v ≡ not (fits n (true_difference n s d x))
  sub_overflow = sub_overflow_raised n positive s d x ∙ rw difference_raised (sym (no_fit n (raised n d) (raised n s + digit x)))

  pub sub_signed : (sub_flags n s d (difference n s d x)).v ≡ false → signed n (difference n s d x) ≡ true_difference n s d x
  sub_signed clear =
      let h = 2 ^ (n - 1) in
      let r = difference n s d x in
      let reads_so : raised n d + h ≡ raised n s + raised n r + digit x = sub_raised n positive s d x clear in
      signed_raised n positive r ∙ minus_same (raised n r) h (raised n d) (raised n s + digit x) (omega arith) ∙ sym difference_raised

-- LT after d - s
pub sub_less :
    (n : ℕ) → 0 < n → (s d : ℕ) →
    is_lt (sub_flags n s d (difference n s d false)).n (sub_flags n s d (difference n s d false)).v ≡ lt_z (signed n d) (signed n s)
sub_less n positive s d = sub_less_raised n positive s d ∙ sym (signed_less n positive d s)
