-- Sign extension from k bits to n, over any k and n:
--     extended_signed     it keeps the signed reading
--     extended_lt         it has n bits
--     extended_all        from n bits to n it is the n bits as they are: a long source is used as it came
--     extended_whole      the sum that the code takes: 2 ^ 32 keeps the signed reading from going below 0
-- Assumes nothing.
use mathlib.Core.Path.{◌≡◌, ◌∙◌, ap, sym, refl}
use mathlib.Core.Bool.{Bool, true, false}
use Prim.Native.Nat.{ℕ, suc, ◌+◌, ◌-◌, ◌*◌, ◌%◌, ◌^◌, ◌≤◌, ◌<◌}
use native.Mathlib.Nat.{mod-eq_of_lt, mul-add-mod_self_right}
use native.Mathlib.Omega.{arith}
use lib.Pow.{pow_pos, pow-add, pow_mono}
use Rattle.alu.specs.Bits.{low, top, raised, signed, digit, extended}
use Rattle.alu.proofs.Signed.{Reads, reads, pow_half}
use Rattle.alu.proofs.Minus.{minus_same}
use Rattle.alu.proofs.Integers.{signed_raised}

-- in numbers: x has k bits with the top bit b and the raised reading y; h and g are half of 2 ^ k and of 2 ^ n
filled_lt : (h g x y : ℕ) (b : Bool) → Reads h b x y → h ≤ g → x + digit b * (2 * g - 2 * h) < 2 * g
filled_lt h g x y true r h≤g = omega (arith, r.below)
filled_lt h g x y false r h≤g = omega (arith, r.below)

-- the filled number's raised reading
filled_raised :
    (h g x y : ℕ) (b : Bool) → Reads h b x y → h ≤ g → (x + digit b * (2 * g - 2 * h) + g) % (2 * g) + h ≡ y + g
filled_raised h g x y true r h≤g =
    let whole : x + 1 * (2 * g - 2 * h) + g ≡ 1 * (2 * g) + (y + g - h) = omega (arith, r.again, r.upper) in
    let small : y + g - h < 2 * g = omega (arith, r.again, r.below) in
    rw (whole, mul-add-mod_self_right 1 (2 * g) (y + g - h), mod-eq_of_lt small) (omega arith)
filled_raised h g x y false r h≤g =
    let whole : x + 0 * (2 * g - 2 * h) + g ≡ y + g - h = omega (arith, r.again) in
    let small : y + g - h < 2 * g = omega (arith, r.again, r.below) in
    rw (whole, mod-eq_of_lt small) (omega (arith, r.again))

-- a multiple of 2 ^ n and the signed reading
filled_whole :
    (h g q x y : ℕ) (b : Bool) → Reads h b x y → h ≤ g → (suc q * (2 * g) + y - h) % (2 * g) ≡ x + digit b * (2 * g - 2 * h)
filled_whole h g q x y true r h≤g =
    let whole : suc q * (2 * g) + y - h ≡ q * (2 * g) + (x + 1 * (2 * g - 2 * h)) = omega (arith, r.again, r.upper) in
    rw (whole, mul-add-mod_self_right q (2 * g) (x + 1 * (2 * g - 2 * h))) (mod-eq_of_lt (filled_lt h g x y true r h≤g))
filled_whole h g q x y false r h≤g =
    let whole : suc q * (2 * g) + y - h ≡ suc q * (2 * g) + (x + 0 * (2 * g - 2 * h)) = omega (arith, r.again) in
    rw (whole, mul-add-mod_self_right (suc q) (2 * g) (x + 0 * (2 * g - 2 * h))) (mod-eq_of_lt (filled_lt h g x y false r h≤g))

module _ (k n : ℕ) (positive : 0 < k) (k≤n : k ≤ n) (x : ℕ) where
  halves : 2 ^ (k - 1) ≤ 2 ^ (n - 1)
  halves = pow_mono {i = k - 1} {j = n - 1} (omega arith)

  is_filled : extended k n x ≡ low k x + digit (top k x) * (2 * 2 ^ (n - 1) - 2 * 2 ^ (k - 1))
  unfolding extended
  is_filled = rw (pow_half k positive, pow_half n (omega arith))

  pub extended_lt : extended k n x < 2 ^ n
  extended_lt =
      rw (is_filled, pow_half n (omega arith)) (filled_lt (2 ^ (k - 1)) (2 ^ (n - 1)) (low k x) (raised k x) (top k x) (reads k positive x) halves)

  raised_is : raised n (extended k n x) ≡ (extended k n x + 2 ^ (n - 1)) % 2 ^ n
  unfolding raised
  raised_is = refl

  extended_raised : raised n (extended k n x) + 2 ^ (k - 1) ≡ raised k x + 2 ^ (n - 1)
  extended_raised =
      rw (raised_is, is_filled, pow_half n (omega arith))
      (filled_raised (2 ^ (k - 1)) (2 ^ (n - 1)) (low k x) (raised k x) (top k x) (reads k positive x) halves)

  pub extended_signed : signed n (extended k n x) ≡ signed k x
  extended_signed =
      let y = extended k n x in
      signed_raised n (omega arith) y ∙ minus_same (raised n y) (2 ^ (n - 1)) (raised k x) (2 ^ (k - 1)) extended_raised ∙
      sym (signed_raised k positive x)

  pub extended_whole : n ≤ 32 → (2 ^ 32 + raised k x - 2 ^ (k - 1)) % 2 ^ n ≡ extended k n x
  extended_whole n≤32 =
      let g = 2 ^ (n - 1) in
      let q = 2 ^ (32 - n) - 1 in
      let parts : 32 ≡ 32 - n + n = omega arith in
      let split : 2 ^ 32 ≡ suc q * (2 * g) =
      ap (λ (e : ℕ). 2 ^ e) parts ∙ pow-add 2 (32 - n) n ∙ rw (pow_half n (omega arith)) (ap (λ (t : ℕ). t * (2 * g)) (omega (arith, pow_pos (32 - n)))) in
      rw (is_filled, pow_half n (omega arith), split)
      (filled_whole (2 ^ (k - 1)) g q (low k x) (raised k x) (top k x) (reads k positive x) halves)

pub extended_all : (n x : ℕ) → extended n n x ≡ low n x
unfolding extended
extended_all n x =
    let none : 2 ^ n - 2 ^ n ≡ 0 = omega arith in rw none (omega arith)
