-- Words bit by bit:
--     top_and, top_or, top_xor     the top bit of `a & b`, `a | b` and `a ^ b` is that operation on the top bits
--     low_mask                     `&` with n set bits leaves the low n bits
--     clear_weight, top_weight     `&` with the weight of a bit tells the bit
-- Assumes nothing.
use mathlib.Core.Path.{◌≡◌, ◌∙◌, ap, refl}
use mathlib.Core.Bool.{Bool, true, false, not, ◌&&◌, ◌||◌, xor}
use Prim.Native.Nat.{ℕ, ◌+◌, ◌-◌, ◌*◌, ◌/◌, ◌%◌, ◌^◌, ◌≤◌, ◌<◌}
use native.Mathlib.Nat.{mod-lt}
use native.Mathlib.Omega.{arith}
use borrow.Author.Tests.{eq-eqb, ne_eqb}
use lib.Dec.{eqb, lit<}
use lib.Pow.{pow_pos, pow-add}
use lib.Bits.{bit_and, bit_or, bit_xor, and_shr, or_shr, xor_shr, and_mod, or_mod, xor_mod, and_mask, and_high}
use Rattle.alu.specs.Bits.{low, bit, top}
use Rattle.alu.proofs.Bounds.{below_2}
use Rattle.alu.proofs.Turns.{low_low}

-- an operation f on words that goes bit by bit, and does g on single bits
module _ (f : ℕ → ℕ → ℕ) (g : Bool → Bool → Bool)
    (shr : (a b k : ℕ) → f a b / 2 ^ k ≡ f (a / 2 ^ k) (b / 2 ^ k))
    (rest : (a b k : ℕ) → f a b % 2 ^ k ≡ f (a % 2 ^ k) (b % 2 ^ k))
    (none : eqb (f 0 0) 1 ≡ g false false) (right : eqb (f 0 1) 1 ≡ g false true)
    (left : eqb (f 1 0) 1 ≡ g true false) (both : eqb (f 1 1) 1 ≡ g true true) where
  on_digits : (p q : ℕ) → p < 2 → q < 2 → eqb (f p q) 1 ≡ g (eqb p 1) (eqb q 1)
  on_digits p q p<2 q<2 =
      below_2 (λ p. eqb (f p q) 1 ≡ g (eqb p 1) (eqb q 1)) (below_2 (λ q. eqb (f 0 q) 1 ≡ g false (eqb q 1)) none right q q<2)
      (below_2 (λ q. eqb (f 1 q) 1 ≡ g true (eqb q 1)) left both q q<2) p p<2

  bit_by_bit : (n a b : ℕ) → top n (f a b) ≡ g (top n a) (top n b)
  unfolding top
  bit_by_bit n a b =
      let k = n - 1 in
      ap (λ (t : ℕ). eqb (t % 2) 1) (shr a b k) ∙ ap (λ (t : ℕ). eqb t 1) (rest (a / 2 ^ k) (b / 2 ^ k) 1) ∙
      on_digits (a / 2 ^ k % 2) (b / 2 ^ k % 2) (mod-lt (a / 2 ^ k) (lit< tt)) (mod-lt (b / 2 ^ k) (lit< tt))

pub top_and : (n a b : ℕ) → top n (bit_and a b) ≡ (top n a && top n b)
top_and = bit_by_bit bit_and ◌&&◌ and_shr and_mod refl refl refl refl

pub top_or : (n a b : ℕ) → top n (bit_or a b) ≡ (top n a || top n b)
top_or = bit_by_bit bit_or ◌||◌ or_shr or_mod refl refl refl refl

pub top_xor : (n a b : ℕ) → top n (bit_xor a b) ≡ xor (top n a) (top n b)
unfolding xor
top_xor = bit_by_bit bit_xor xor xor_shr xor_mod refl refl refl refl

-- `x & (2 ^ n - 1)` of a number cut to 32 bits is its low n bits
pub low_mask : (n x : ℕ) → n ≤ 32 → bit_and (low 32 x) (2 ^ n - 1) ≡ low n x
low_mask n x n≤32 = and_mask (low 32 x) n ∙ low_low n 32 x n≤32

-- `x & 2 ^ k` is 0 where bit k is clear
digit_weight : (k r : ℕ) → r < 2 → eqb (r * 2 ^ k) 0 ≡ not (eqb r 1)
digit_weight k = below_2 (λ r. eqb (r * 2 ^ k) 0 ≡ not (eqb r 1)) (eq-eqb (0 * 2 ^ k) 0 (omega arith)) (ne_eqb (1 * 2 ^ k) 0 (λ e. omega (arith, pow_pos k)))

pub clear_weight : (k x : ℕ) → eqb (bit_and x (2 ^ k)) 0 ≡ not (bit k x)
clear_weight k x =
    let one : 2 ^ k ≡ 2 ^ (1 + k) - 2 ^ k = omega (arith, pow-add 2 1 k) in
    ap (λ (t : ℕ). eqb (bit_and x t) 0) one ∙ ap (λ (t : ℕ). eqb t 0) (and_high x 1 k) ∙ digit_weight k (x / 2 ^ k % 2) (mod-lt (x / 2 ^ k) (lit< tt))

not_not : (b : Bool) → not (not b) ≡ b
not_not true = refl
not_not false = refl

pub top_weight : (n x : ℕ) → not (eqb (bit_and x (2 ^ (n - 1))) 0) ≡ top n x
unfolding top
top_weight n x = ap not (clear_weight (n - 1) x) ∙ not_not (bit (n - 1) x)
