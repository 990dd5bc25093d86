-- What the arithmetic shifts mean in the integers, over the number n of bits and the count k:
--     asl_overflow    V of ASL: the signed product with 2 ^ k does not fit n bits
--     asl_signed      where V is clear the result reads as that product
--     asr_quotient    ASR: the result reads as the signed quotient by 2 ^ k, rounded down
-- Assumes nothing.
use mathlib.Core.Path.{◌≡◌, refl, sym, ap, ap₂, ◌∙◌}
use mathlib.Core.Bool.{Bool, true, false, not, xor, ◌||◌, true≢false}
use Prim.Native.Nat.{ℕ, zero, suc, ◌+◌, ◌-◌, ◌*◌, ◌/◌, ◌^◌, ◌≤◌, ◌<◌}
use native.Mathlib.Nat.{pow-suc, mod-mod, mod-eq_of_lt, mul-one, zero-mul, div-add-mod', div-div-eq-div-mul, add-mul-mod_self_right, le-mul_of_pos_right}
use native.Mathlib.Decide.{dec_lt}
use native.Mathlib.Omega.{arith}
use lib.Dec.{leb, ltb}
use lib.IntN.{ℤ, pos, negsuc, ◌+ℤ◌, ◌-ℤ◌, ◌*ℤ◌, +ℤ_idr}
use lib.Pow.{pow_pos, pow-add, shr_le}
use lib.Signed.{shr_z}
use borrow.Author.Tests.{lt-ltb, le-ltb, le-leb, lt-leb, ltb-true, leb-true}
use Rattle.alu.specs.declared.shift_rotate.Held.{Held}
use Rattle.alu.specs.declared.shift_rotate.ShiftOp.TheVariants.{Asr}
use Rattle.alu.specs.Bits.{low, top, signed, fits, digit}
use Rattle.alu.specs.ConditionCodes.{add_v, add_flags}
use Rattle.alu.specs.Arith.{sum, true_sum}
use Rattle.alu.specs.Shifts.{left, turns, changed}
use Rattle.alu.specs.Places.{below}
use Rattle.alu.proofs.Bounds.{digit_le}
use Rattle.alu.proofs.Signed.{reads, pow_half}
use Rattle.alu.proofs.Minus.{minus, minus_add, minus_zero, zero_minus, minus_same, minus_times, no_fit}
use Rattle.alu.proofs.Integers.{add_overflow, add_signed}
use Rattle.alu.proofs.Turns.{ones, top_low, top_set, top_clear, digit_times, asr_positive, asr_complement}

-- a reading looks at the low bits alone
signed_low : (n x : ℕ) → 0 < n → signed n (low n x) ≡ signed n x
unfolding signed
signed_low n x positive = ap₂ (λ (a : ℕ) (t : Bool). pos a -ℤ pos (digit t * 2 ^ n)) (mod-mod x (2 ^ n)) (top_low n x positive)

low_times : (n x m : ℕ) → low n (low n x * m) ≡ low n (x * m)
low_times n x m =
    let p = 2 ^ n in
    let is : x * m ≡ low n x * m + x / p * m * p = omega (arith, ap (λ (y : ℕ). y * m) (div-add-mod' x p)) in
    sym (ap (low n) is ∙ add-mul-mod_self_right (low n x * m) (x / p * m) p)

or_true : (b : Bool) → (b || true) ≡ true
or_true true = refl
or_true false = refl

is_add_v : (t r : Bool) → xor t r ≡ add_v t t r
unfolding xor
is_add_v true true = refl
is_add_v true false = refl
is_add_v false true = refl
is_add_v false false = refl

-- ---- products

module _ (n : ℕ) (positive : 0 < n) where
  -- the reading times m, as a difference of naturals
  times : (x m : ℕ) → signed n x *ℤ pos m ≡ minus (low n x * m) (digit (top n x) * 2 ^ n * m)
  unfolding signed
  times x m = minus_times (low n x) (digit (top n x) * 2 ^ n) m

  once : (x : ℕ) → signed n x *ℤ pos 1 ≡ signed n x
  unfolding signed
  once x = times x 1 ∙ minus_same (low n x * 1) (digit (top n x) * 2 ^ n * 1) (low n x) (digit (top n x) * 2 ^ n) (omega arith)

  -- twice the reading, then m times
  two : (x : ℕ) → let a = low n x in let b = digit (top n x) * 2 ^ n in true_sum n x x false ≡ minus (a + a) (b + b)
  unfolding signed
  two x = let a = low n x in let b = digit (top n x) * 2 ^ n in +ℤ_idr (signed n x +ℤ signed n x) ∙ minus_add a b a b

  twice : (x m : ℕ) → true_sum n x x false *ℤ pos m ≡ signed n x *ℤ pos (m * 2)
  unfolding signed
  twice x m =
      let a = low n x in
      let b = digit (top n x) * 2 ^ n in
      ap (λ (z : ℤ). z *ℤ pos m) (two x) ∙ minus_times (a + a) (b + b) m ∙
      minus_same ((a + a) * m) ((b + b) * m) (a * (m * 2)) (b * (m * 2)) (omega arith) ∙ sym (times x (m * 2))

  -- what does not fit does not fit any more times over
  far : (p q m : ℕ) → 0 < m → not (fits n (minus p q)) ≡ true → not (fits n (minus (p * m) (q * m))) ≡ true
  far p q m some out = no_fit n (p * m) (q * m) ∙ go (ltb (p + h) q) refl
    where
      h : ℕ
      h = 2 ^ (n - 1)

      more : h ≤ h * m
      more = le-mul_of_pos_right h some

      go : (t : Bool) → ltb (p + h) q ≡ t → (ltb (p * m + h) (q * m) || leb (q * m + h) (p * m)) ≡ true
      go true e =
          let d = q - suc (p + h) in
          let under : p + h < q = ltb-true (p + h) q e in
          let is : q * m ≡ (d + 1 + p + h) * m = ap (λ (x : ℕ). x * m) (omega arith) in
          rw (lt-ltb (p * m + h) (q * m) (omega (arith, is, more, some)))
      go false e =
          let past : q + h ≤ p = leb-true (q + h) p (sym (ap (λ (t : Bool). t || leb (q + h) p) e) ∙ sym (no_fit n p q) ∙ out) in
          let d = p - (q + h) in
          let is : p * m ≡ (d + q + h) * m = ap (λ (x : ℕ). x * m) (omega arith) in
          rw (le-leb (q * m + h) (p * m) (omega (arith, is, more))) (or_true (ltb (p * m + h) (q * m)))

  far_sum : (x m : ℕ) → 0 < m → not (fits n (true_sum n x x false)) ≡ true → not (fits n (true_sum n x x false *ℤ pos m)) ≡ true
  far_sum x m some out =
      let a = low n x in
      let b = digit (top n x) * 2 ^ n in
      ap (λ (z : ℤ). not (fits n z)) (ap (λ (z : ℤ). z *ℤ pos m) (two x) ∙ minus_times (a + a) (b + b) m) ∙
      far (a + a) (b + b) m some (ap (λ (z : ℤ). not (fits n z)) (sym (two x)) ∙ out)

  -- ---- one position of ASL is the operand added to itself

  module _ (v : ℕ) where
    next : ℕ
    next = (left n false (low n v)).value

    next_is : sum n v v false ≡ next
    unfolding sum next
    next_is = ap (low n) (omega arith)

    change : xor (top n (low n v)) (top n next) ≡ (add_flags n v v next).v
    unfolding add_flags
    change = ap (λ (t : Bool). xor t (top n next)) (top_low n v positive) ∙ is_add_v (top n v) (top n next)

    change_overflow : xor (top n (low n v)) (top n next) ≡ not (fits n (true_sum n v v false))
    change_overflow = change ∙ ap (λ (r : ℕ). (add_flags n v v r).v) (sym next_is) ∙ add_overflow n positive v v false

    change_signed : xor (top n (low n v)) (top n next) ≡ false → signed n next ≡ true_sum n v v false
    change_signed clear =
        ap (signed n) (sym next_is) ∙ add_signed n positive v v false (ap (λ (r : ℕ). (add_flags n v v r).v) next_is ∙ sym change ∙ clear)

  -- ---- k positions

  fits_signed : (x : ℕ) → not (fits n (signed n x)) ≡ false
  unfolding signed
  fits_signed x =
      let h = 2 ^ (n - 1) in
      let a = low n x in
      let b = digit (top n x) * 2 ^ n in
      let r = reads n positive x in
      let b-is : b ≡ digit (top n x) * h * 2 = omega (arith, ap (◌*◌ (digit (top n x))) (pow_half n positive)) in
      no_fit n a b ∙ rw (le-ltb (a + h) b (omega (arith, r.upper, b-is, digit_times (top n x) h)), lt-leb (b + h) a (omega (arith, r.below, b-is)))

  -- what is shown of ASL by k
  record Shown (k v : ℕ) : Type 0 where
    overflow : changed n k (low n v) ≡ not (fits n (signed n v *ℤ pos (2 ^ k)))
    reads_so : changed n k (low n v) ≡ false → signed n (v * 2 ^ k) ≡ signed n v *ℤ pos (2 ^ k)

  -- one position more, before the others
  module _ (k v : ℕ) (rest : Shown k (next v)) where
    to : true_sum n v v false *ℤ pos (2 ^ k) ≡ signed n v *ℤ pos (2 ^ suc k)
    to = twice v (2 ^ k) ∙ ap (λ (x : ℕ). signed n v *ℤ pos x) (sym (pow-suc 2 k))

    stays : low n (next v) ≡ next v
    unfolding next
    stays = mod-mod (2 * low n v + 0) (2 ^ n)

    later : low n (next v * 2 ^ k) ≡ low n (v * 2 ^ suc k)
    unfolding next
    later =
        low_times n (2 * low n v + 0) (2 ^ k) ∙ ap (low n) (omega (arith, ap (◌*◌ (low n v)) (pow-suc 2 k))) ∙ low_times n v (2 ^ suc k)

    step : Shown (suc k) v
    unfolding changed next
    step = go (xor (top n (low n v)) (top n (next v))) refl
      where
        go : (t : Bool) → xor (top n (low n v)) (top n (next v)) ≡ t → Shown (suc k) v
        go true e =
            let out : not (fits n (true_sum n v v false)) ≡ true = sym (change_overflow v) ∙ e in
            record {
              overflow = rw e (sym (ap (λ (z : ℤ). not (fits n z)) (sym to) ∙ far_sum v (2 ^ k) (pow_pos k) out));
              reads_so = λ clear. absurd (true≢false (sym (ap (λ (t : Bool). t || changed n k (next v)) e) ∙ clear));
            }
        go false e =
            let reads-next : signed n (next v) *ℤ pos (2 ^ k) ≡ signed n v *ℤ pos (2 ^ suc k) =
            ap (λ (z : ℤ). z *ℤ pos (2 ^ k)) (change_signed v e) ∙ to in
            record {
              overflow = rw e (ap (changed n k) (sym stays) ∙ rest.overflow ∙ ap (λ (z : ℤ). not (fits n z)) reads-next);
              reads_so = λ clear.
                  sym (signed_low n (v * 2 ^ suc k) positive) ∙ ap (signed n) (sym later) ∙ signed_low n (next v * 2 ^ k) positive ∙
                  rest.reads_so (ap (changed n k) stays ∙ sym (ap (λ (t : Bool). t || changed n k (next v)) e) ∙ clear) ∙ reads-next;
            }

  shown : (k v : ℕ) → Shown k v
  unfolding changed
  shown zero v =
      record {
        overflow = sym (ap (λ (z : ℤ). not (fits n z)) (once v) ∙ fits_signed v);
        reads_so = λ clear. ap (signed n) (mul-one v) ∙ sym (once v);
      }
  shown (suc k) v = step k v (shown k (next v))

  pub asl_overflow : (k v : ℕ) → changed n k (low n v) ≡ not (fits n (signed n v *ℤ pos (2 ^ k)))
  asl_overflow k v = (shown k v).overflow

  pub asl_signed : (k v : ℕ) → changed n k (low n v) ≡ false → signed n (v * 2 ^ k) ≡ signed n v *ℤ pos (2 ^ k)
  asl_signed k v = (shown k v).reads_so

-- ---- the quotient

module _ (n : ℕ) (positive : 0 < n) where
  signed_clear : (v : ℕ) → v < 2 ^ (n - 1) → signed n v ≡ pos v
  unfolding signed
  signed_clear v under =
      ap₂ (λ (a : ℕ) (t : Bool). minus a (digit t * 2 ^ n)) (mod-eq_of_lt (omega (arith, pow_half n positive))) (top_clear n v under) ∙
      ap (minus v) (zero-mul (2 ^ n)) ∙ minus_zero v

  signed_set : (v : ℕ) → 2 ^ (n - 1) ≤ v → v < 2 ^ n → signed n v ≡ negsuc (2 ^ n - 1 - v)
  unfolding signed
  signed_set v upper l =
      ap₂ (λ (a : ℕ) (t : Bool). minus a (digit t * 2 ^ n)) (mod-eq_of_lt l) (top_set n v positive upper l) ∙
      minus_same v (1 * 2 ^ n) 0 (suc (2 ^ n - 1 - v)) (omega arith) ∙ zero_minus (suc (2 ^ n - 1 - v))

  pub asr_quotient : (k : ℕ) (h : Held) → h.value < 2 ^ n → signed n (turns Asr n k h).value ≡ shr_z (signed n h.value) (2 ^ k)
  asr_quotient k h l = go (dec_lt h.value (2 ^ (n - 1)))
    where
      -- a shift and a halving in either order
      order : (s : ℕ) → s / 2 ^ k / 2 ≡ s / 2 / 2 ^ k
      order s = div-div-eq-div-mul s (2 ^ k) 2 ∙ ap (◌/◌ s) (omega arith) ∙ sym (div-div-eq-div-mul s 2 (2 ^ k))

      go : Dec (h.value < 2 ^ (n - 1)) → signed n (turns Asr n k h).value ≡ shr_z (signed n h.value) (2 ^ k)
      go (yes under) =
          let v = h.value in
          let is : (turns Asr n k h).value ≡ v / 2 ^ k =
          ap (λ (g : Held). g.value) (asr_positive n k h positive under) ∙ order (below h) ∙
          ap (λ (x : ℕ). x / 2 ^ k) (omega (arith, digit_le h.out)) in
          rw (is, signed_clear v under) (signed_clear (v / 2 ^ k) (omega (arith, shr_le v k)))
      go (no past) =
          let v = h.value in
          let c = (2 ^ n - 1 - v) / 2 ^ k in
          let upper : 2 ^ (n - 1) ≤ v = omega arith in
          let small : c ≤ 2 ^ n - 1 - v = shr_le (2 ^ n - 1 - v) k in
          let halved : (ones n - below h) / 2 ^ k / 2 ≡ c =
          order (ones n - below h) ∙ ap (λ (x : ℕ). x / 2 ^ k) (omega (arith, pow-add 2 n 1, digit_le h.out)) in
          let is : (turns Asr n k h).value ≡ 2 ^ n - 1 - c =
          ap (λ (g : Held). g.value) (asr_complement n k h positive upper l) ∙ omega (arith, halved, pow-add 2 n 1, pow_pos n, shr_le (ones n - below h) k) in
          let back : 2 ^ n - 1 - (2 ^ n - 1 - c) ≡ c = omega arith in
          rw (is, signed_set v upper l) (signed_set (2 ^ n - 1 - c) (omega (arith, pow_half n positive)) (omega (arith, pow_pos n)) ∙ ap negsuc back)
