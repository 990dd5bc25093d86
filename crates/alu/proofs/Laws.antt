-- What the Manual's C and V say in numbers, proved once over the number n of bits:
--     add_carry, sub_borrow                      C is the carry, the borrow
--     add_exact, sub_exact                       so the result and C are the whole sum, the whole difference
--     add_overflow_raised, sub_overflow_raised   V: the true signed sum, difference, doesn't fit
--     add_raised, sub_raised                     where V is clear the result reads as the true signed sum, difference
--     sub_less_raised                            the condition LT after d - s: d is below s, signed
--     neg_flags_lem                                  NEG's row is that of 0 - d
-- The signed reading is raised to a natural number here; `Integers` has the same laws in the integers.
-- Assumes nothing.
use mathlib.Core.Path.{◌≡◌, ◌∙◌, ap, sym, refl}
use mathlib.Core.Bool.{Bool, true, false, ◌||◌}
use Prim.Native.Nat.{ℕ, ◌+◌, ◌-◌, ◌*◌, ◌%◌, ◌^◌, ◌≤◌, ◌<◌}
use native.Mathlib.Nat.{zero-div, mod-lt, mod-eq_of_lt, mod-eq-sub-mod, mod-mod, add-mod_right}
use native.Mathlib.Omega.{arith}
use lib.Dec.{leb, ltb}
use lib.Pow.{pow_pos}
use borrow.Author.Tests.{lt-ltb, le-ltb, le-leb, lt-leb, leb-true, leb-false, ltb-true, ltb-false}
use Rattle.alu.specs.Bits.{low, top, raised, digit}
use Rattle.alu.specs.ConditionCodes.{add_v, add_c, is_lt, add_flags, sub_flags, neg_flags}
use Rattle.alu.specs.Arith.{sum, difference}
use Rattle.alu.proofs.Bounds.{digit_le, low_lt}
use Rattle.alu.proofs.Formulas.{swap_v, swap_c, neg_v_is, neg_c_is}
use Rattle.alu.proofs.Signed.{Reads, reads, pow_half}

-- An addition a + b + x = t with carry k, of numbers below 2h, which read a', b', t' as signed numbers raised by h. A, B, T are the top bits.
-- C is the carry. V is clear exactly if the true signed sum, raised by 2h, lies from h to below 3h, and then t reads as that sum.
-- Read backwards, as the difference b = t - a - x, C is the borrow, and V is clear exactly if the true signed difference lies from -h to below h;
-- and without x the Manual's LT, of b's sign and V, says that t is below a.
record Adder (h : ℕ) (A B T : Bool) (a' b' t' x : ℕ) (k : Bool) : Type 0 where
  carry : digit (add_c A B T) ≡ digit k
  signed : digit (add_v A B T) ≡ 0 → t' + h ≡ a' + b' + x
  clear : digit (add_v A B T) ≡ 0 → (h ≤ a' + b' + x) × (a' + b' + x < 3 * h)
  over : digit (add_v A B T) ≡ 1 → h ≤ a' + b' + x → a' + b' + x < 3 * h → ⊥
  back_clear : digit (add_v A B T) ≡ 0 → (a' + x ≤ t' + h) × (t' < a' + x + h)
  back_over : digit (add_v A B T) ≡ 1 → a' + x ≤ t' + h → t' < a' + x + h → ⊥
  less : x ≡ 0 → digit (is_lt B (add_v A B T)) ≡ 1 → t' < a'
  not_less : x ≡ 0 → digit (is_lt B (add_v A B T)) ≡ 0 → a' ≤ t'

adder :
    (A B T k : Bool) {h a b t a' b' t' x : ℕ} → Reads h A a a' → Reads h B b b' → Reads h T t t' → x ≤ 1 → a + b + x ≡ t + digit k * (2 * h) →
    Adder h A B T a' b' t' x k
adder true true true true p q r x≤1 e = omega arith
adder true true true false p q r x≤1 e = omega arith
adder true true false true p q r x≤1 e = omega arith
adder true true false false p q r x≤1 e = omega arith
adder true false true true p q r x≤1 e = omega arith
adder true false true false p q r x≤1 e = omega arith
adder true false false true p q r x≤1 e = omega arith
adder true false false false p q r x≤1 e = omega arith
adder false true true true p q r x≤1 e = omega arith
adder false true true false p q r x≤1 e = omega arith
adder false true false true p q r x≤1 e = omega arith
adder false true false false p q r x≤1 e = omega arith
adder false false true true p q r x≤1 e = omega arith
adder false false true false p q r x≤1 e = omega arith
adder false false false true p q r x≤1 e = omega arith
adder false false false false p q r x≤1 e = omega arith

-- from the digits' facts to equations of flags
same : (b k : Bool) → digit b ≡ digit k → b ≡ k
same true true e = refl
same true false e = absurd (let none : ⊥ = omega arith in none)
same false true e = absurd (let none : ⊥ = omega arith in none)
same false false e = refl

is_below : (b : Bool) (i j : ℕ) → (digit b ≡ 1 → i < j) → (digit b ≡ 0 → j ≤ i) → b ≡ ltb i j
is_below true i j yes-it no-it = sym (lt-ltb i j (yes-it refl))
is_below false i j yes-it no-it = sym (le-ltb i j (no-it refl))

is_outside :
    (v : Bool) (t least past t' : ℕ) → (digit v ≡ 0 → (least ≤ t) × (t' < past)) → (digit v ≡ 1 → least ≤ t → t' < past → ⊥) →
    v ≡ (ltb t least || leb past t')
is_outside false t least past t' clear over =
    let c = clear refl in rw (le-ltb t least c.0, lt-leb past t' c.1)
is_outside true t least past t' clear over = beyond (ltb t least) refl where
  beyond : (b : Bool) → ltb t least ≡ b → true ≡ (b || leb past t')
  beyond true e = refl
  beyond false e =
      let far : t' < past → ⊥ = over refl (ltb-false t least e) in sym (le-leb past t' (omega arith))

-- the remainder of a sum below 2 N, and that of a difference, with the carry and the borrow
wrap_sum : (N t : ℕ) → t < 2 * N → t ≡ t % N + digit (leb N t) * N
wrap_sum N t t<2N = go (leb N t) refl where
  go : (b : Bool) → leb N t ≡ b → t ≡ t % N + digit b * N
  go true e =
      let N≤t : N ≤ t = leb-true N t e in
      let rest : t % N ≡ t - N = mod-eq-sub-mod N≤t ∙ mod-eq_of_lt (omega arith) in
      omega arith
  go false e = let rest : t % N ≡ t = mod-eq_of_lt (leb-false N t e) in omega arith

wrap_difference :
    (N s d x : ℕ) → s < N → d < N → x ≤ 1 → s + (N + d - (s + x)) % N + x ≡ d + digit (ltb d (s + x)) * N
wrap_difference N s d x s<N d<N x≤1 = go (ltb d (s + x)) refl where
  go : (b : Bool) → ltb d (s + x) ≡ b → s + (N + d - (s + x)) % N + x ≡ d + digit b * N
  go true e =
      let less : d < s + x = ltb-true d (s + x) e in
      let rest : (N + d - (s + x)) % N ≡ N + d - (s + x) = mod-eq_of_lt (omega arith) in
      omega arith
  go false e =
      let more : s + x ≤ d = ltb-false d (s + x) e in
      let rest : (N + d - (s + x)) % N ≡ d - (s + x) =
      ap (λ (k : ℕ). k % N) (omega arith) ∙ add-mod_right (d - (s + x)) N ∙ mod-eq_of_lt (omega arith) in
      omega arith

-- results have n bits
pub sum_lt : (n s d : ℕ) (x : Bool) → sum n s d x < 2 ^ n
unfolding sum
sum_lt n s d x = mod-lt _ (pow_pos n)

pub difference_lt : (n s d : ℕ) (x : Bool) → difference n s d x < 2 ^ n
unfolding difference
difference_lt n s d x = mod-lt _ (pow_pos n)

-- d + s + x in n bits
module _ (n : ℕ) (positive : 0 < n) (s d : ℕ) (x : Bool) where
  sum_adder :
      Adder (2 ^ (n - 1)) (top n s) (top n d) (top n (sum n s d x)) (raised n s) (raised n d) (raised n (sum n s d x)) (digit x)
      (leb (2 ^ n) (low n d + low n s + digit x))
  unfolding sum
  sum_adder =
      let t = low n d + low n s + digit x in
      let wraps : t ≡ t % 2 ^ n + digit (leb (2 ^ n) t) * 2 ^ n =
      wrap_sum (2 ^ n) t (omega (arith, low_lt n s, low_lt n d, digit_le x)) in
      adder (top n s) (top n d) (top n (sum n s d x)) (leb (2 ^ n) t) (reads n positive s) (reads n positive d) (reads n positive (sum n s d x))
      (digit_le x) (rw (mod-mod, ← (pow_half n positive)) (omega arith))

  -- C is the carry
  pub add_carry : (add_flags n s d (sum n s d x)).c ≡ leb (2 ^ n) (low n d + low n s + digit x)
  unfolding add_flags
  add_carry = same (add_c (top n s) (top n d) (top n (sum n s d x))) (leb (2 ^ n) (low n d + low n s + digit x)) sum_adder.carry

  -- so the result and C are the whole sum
  pub add_exact : low n d + low n s + digit x ≡ sum n s d x + digit (add_flags n s d (sum n s d x)).c * 2 ^ n
  unfolding sum
  add_exact =
      rw add_carry (wrap_sum (2 ^ n) (low n d + low n s + digit x) (omega (arith, low_lt n s, low_lt n d, digit_le x)))

  -- V: the true signed sum is below -2 ^ (n - 1), or not below 2 ^ (n - 1); here it is raised by twice that
  pub add_overflow_raised :
      (add_flags n s d (sum n s d x)).v ≡
      (ltb (raised n s + raised n d + digit x) (2 ^ (n - 1)) || leb (3 * 2 ^ (n - 1)) (raised n s + raised n d + digit x))
  unfolding add_flags
  add_overflow_raised =
      is_outside _ _ _ _ _ sum_adder.clear sum_adder.over

  -- and if V is clear the result reads as the true signed sum
  pub add_raised : (add_flags n s d (sum n s d x)).v ≡ false → raised n (sum n s d x) + 2 ^ (n - 1) ≡ raised n s + raised n d + digit x
  unfolding add_flags
  add_raised clear = sum_adder.signed (ap digit clear)

-- d - s - x in n bits
module _ (n : ℕ) (positive : 0 < n) (s d : ℕ) (x : Bool) where
  exact : low n s + difference n s d x + digit x ≡ low n d + digit (ltb (low n d) (low n s + digit x)) * 2 ^ n
  unfolding difference
  exact = wrap_difference (2 ^ n) (low n s) (low n d) (digit x) (low_lt n s) (low_lt n d) (digit_le x)

  low_difference : low n (difference n s d x) ≡ difference n s d x
  unfolding difference
  low_difference = mod-mod _ _

  difference_adder :
      Adder (2 ^ (n - 1)) (top n s) (top n (difference n s d x)) (top n d) (raised n s) (raised n (difference n s d x)) (raised n d) (digit x)
      (ltb (low n d) (low n s + digit x))
  difference_adder =
      adder (top n s) (top n (difference n s d x)) (top n d) (ltb (low n d) (low n s + digit x)) (reads n positive s)
      (reads n positive (difference n s d x)) (reads n positive d) (digit_le x) (rw (low_difference, ← (pow_half n positive)) exact)

  -- C is the borrow
  pub sub_borrow : (sub_flags n s d (difference n s d x)).c ≡ ltb (low n d) (low n s + digit x)
  unfolding sub_flags
  sub_borrow = rw (← swap_c) (same _ _ difference_adder.carry)

  -- so the result and C are the whole difference
  pub sub_exact : low n s + difference n s d x + digit x ≡ low n d + digit (sub_flags n s d (difference n s d x)).c * 2 ^ n
  sub_exact = rw sub_borrow exact

  -- V: the true signed difference doesn't fit
  pub sub_overflow_raised :
      (sub_flags n s d (difference n s d x)).v ≡
      (ltb (raised n d + 2 ^ (n - 1)) (raised n s + digit x) || leb (raised n s + digit x + 2 ^ (n - 1)) (raised n d))
  unfolding sub_flags
  sub_overflow_raised = rw (← swap_v) (is_outside _ _ _ _ _ difference_adder.back_clear difference_adder.back_over)

  -- and if V is clear the result reads as the true signed difference
  pub sub_raised :
      (sub_flags n s d (difference n s d x)).v ≡ false → raised n d + 2 ^ (n - 1) ≡ raised n s + raised n (difference n s d x) + digit x
  unfolding sub_flags
  sub_raised clear = difference_adder.signed (ap digit (swap_v (top n s) (top n d) (top n (difference n s d x)) ∙ clear))

-- after d - s the Manual's LT says that d is below s, both read as signed numbers
pub sub_less_raised :
    (n : ℕ) → 0 < n → (s d : ℕ) →
    is_lt (sub_flags n s d (difference n s d false)).n (sub_flags n s d (difference n s d false)).v ≡ ltb (raised n d) (raised n s)
unfolding sub_flags
sub_less_raised n positive s d =
    let a = difference_adder n positive s d false in rw (← swap_v) (is_below _ _ _ (a.less refl) (a.not_less refl))

-- NEG's formulas are those of 0 - d
top_zero : (n : ℕ) → top n 0 ≡ false
unfolding top
top_zero n = rw (zero-div (2 ^ (n - 1)))

pub neg_flags_lem : (n d r : ℕ) → sub_flags n d 0 r ≡ neg_flags n d r
unfolding sub_flags neg_flags
neg_flags_lem n d r = rw (top_zero n, neg_c_is (top n d) (top n r), neg_v_is (top n d) (top n r))
