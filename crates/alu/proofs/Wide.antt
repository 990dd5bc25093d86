-- A sum or difference in two parts, the low n bits and the high m: the second takes the first's C as its X.
--     wide_add, wide_sub                 the two results, joined, are the result in n + m bits, and the second's flags, with Z kept as the X forms
--                                        keep it, are its flags; so a chain of ADD, ADDX, .. is one wide addition, by induction on its length
--     add_addx, sub_subx, neg_negx       the same of the operations ADD then ADDX, SUB then SUBX, NEG then NEGX
--     add_addx_exact, sub_subx_exact     no carry is dropped: the joined result and X are the whole sum, the whole difference
-- Assumes nothing.
use mathlib.Core.Path.{◌≡◌, ◌∙◌, ap, sym, refl}
use mathlib.Core.Bool.{Bool, true, false, ◌&&◌, and_comm, and_assoc}
use Prim.Native.Nat.{ℕ, ◌+◌, ◌-◌, ◌*◌, ◌/◌, ◌%◌, ◌^◌, ◌≤◌, ◌<◌}
use native.Mathlib.Nat.{add_comm, mul_comm, mul-le-mul_right, mod-eq_of_lt}
use native.Mathlib.Omega.{arith}
use lib.Dec.{eqb}
use lib.Pow as Pow
use borrow.Author.Tests.{eqb-true, eqb-false, eq-eqb, ne_eqb}
use lib.Arith.{digits_lt, digits_mod}
use lib.Pow.{pow_pos, pow-add, high, shr-shr, mod-pow-add}
use Rattle.alu.specs.declared.types.Size.{Size}
use Rattle.alu.specs.declared.types.Flags.{Flags}
use Rattle.alu.specs.Bits.{bits_of, low, top, digit, join}
use Rattle.alu.specs.ConditionCodes.{add_v, add_c, sub_v, sub_c, arith_flags, add_flags, sub_flags, neg_flags, keep_z}
use Rattle.alu.specs.Arith.{sum, difference, add_of, addx_of, sub_of, subx_of, neg_of, negx_of}
use Rattle.alu.proofs.Bounds.{bits_pos}
use Rattle.alu.proofs.Laws.{sum_lt, difference_lt, add_exact, sub_exact, neg_flags_lem}

-- the top bit of a joined number is that of its high part
pub join_top : (n m : ℕ) → 0 < m → {a : ℕ} → a < 2 ^ n → (b : ℕ) → top (n + m) (join n a b) ≡ top m b
unfolding top
join_top n m positive {a} a<N b =
    let split : n + m - 1 ≡ n + (m - 1) = omega arith in
    let shift : join n a b / 2 ^ (n + (m - 1)) ≡ b / 2 ^ (m - 1) =
    sym (shr-shr (join n a b) n (m - 1)) ∙ ap (λ (k : ℕ). k / 2 ^ (m - 1)) (high b n a<N) in
    rw (split, shift)

-- and its low n + m bits are the low part and the low m bits of the high part
pub join_low : (n m : ℕ) → {a : ℕ} → a < 2 ^ n → (b : ℕ) → low (n + m) (join n a b) ≡ join n a (low m b)
join_low n m {a} a<N b =
    ap (λ (k : ℕ). join n a b % 2 ^ k) (add_comm n m) ∙ mod-pow-add (join n a b) m n ∙ rw (high b n a<N, Pow.low b n a<N)

-- a joined number is 0 if both its parts are
pub join_zero : (n : ℕ) (a b : ℕ) → eqb (join n a b) 0 ≡ (eqb b 0 && eqb a 0)
join_zero n a b = go (eqb b 0) (eqb a 0) refl refl where
  go : (p q : Bool) → eqb b 0 ≡ p → eqb a 0 ≡ q → eqb (join n a b) 0 ≡ (p && q)
  go true true e f =
      let b≡0 : b ≡ 0 = eqb-true b 0 e in
      let a≡0 : a ≡ 0 = eqb-true a 0 f in
      eq-eqb (join n a b) 0 (rw b≡0 (omega arith))
  go true false e f = ne_eqb (join n a b) 0 (λ (z : join n a b ≡ 0). eqb-false a 0 f (omega arith))
  go false q e f =
      let b≢0 : b ≡ 0 → ⊥ = eqb-false b 0 e in
      ne_eqb (join n a b) 0 (λ (z : join n a b ≡ 0). let N≤ : 1 * 2 ^ n ≤ b * 2 ^ n = mul-le-mul_right (2 ^ n) (omega arith) in
      let none : ⊥ = omega (arith, pow_pos n) in none)

-- the sum and the difference in digits
wide_sum_digits :
    (N M s₀ s₁ d₀ d₁ x c₀ c₁ r₀ r₁ : ℕ) → r₀ < N → r₁ < M → d₀ + s₀ + x ≡ r₀ + c₀ * N → d₁ + s₁ + c₀ ≡ r₁ + c₁ * M →
    (d₁ * N + d₀ + (s₁ * N + s₀) + x) % (M * N) ≡ r₁ * N + r₀
wide_sum_digits N M s₀ s₁ d₀ d₁ x c₀ c₁ r₀ r₁ r₀<N r₁<M e₀ e₁ =
    let whole : d₁ * N + d₀ + (s₁ * N + s₀) + x ≡ c₁ * (M * N) + (r₁ * N + r₀) = omega (arith, ap (λ (k : ℕ). k * N) e₁) in
    rw whole (digits_mod c₁ (digits_lt r₁<M r₀<N))

wide_difference_digits :
    (N M s₀ s₁ d₀ d₁ x c₀ : ℕ) (c₁ : Bool) (r₀ r₁ : ℕ) → r₀ < N → r₁ < M → s₀ + r₀ + x ≡ d₀ + c₀ * N → s₁ + r₁ + c₀ ≡ d₁ + digit c₁ * M →
    (M * N + (d₁ * N + d₀) - (s₁ * N + s₀ + x)) % (M * N) ≡ r₁ * N + r₀
wide_difference_digits N M s₀ s₁ d₀ d₁ x c₀ true r₀ r₁ r₀<N r₁<M e₀ e₁ =
    let whole : M * N + (d₁ * N + d₀) - (s₁ * N + s₀ + x) ≡ r₁ * N + r₀ = omega (arith, ap (λ (k : ℕ). k * N) e₁) in
    rw whole (mod-eq_of_lt (digits_lt r₁<M r₀<N))
wide_difference_digits N M s₀ s₁ d₀ d₁ x c₀ false r₀ r₁ r₀<N r₁<M e₀ e₁ =
    let whole : M * N + (d₁ * N + d₀) - (s₁ * N + s₀ + x) ≡ 1 * (M * N) + (r₁ * N + r₀) = omega (arith, ap (λ (k : ℕ). k * N) e₁) in
    rw whole (digits_mod 1 (digits_lt r₁<M r₀<N))

-- Z kept twice is kept once
pub keep_z_assoc : (f g h : Flags) → keep_z (keep_z f g) h ≡ keep_z f (keep_z g h)
keep_z_assoc f g h = rw (and_assoc f.z g.z h.z)

module _ (n m : ℕ) (n_pos : 0 < n) (m-pos : 0 < m) (s₀ s₁ d₀ d₁ : ℕ) (s-low : s₀ < 2 ^ n) (d-low : d₀ < 2 ^ n) (x : Bool) where
  whole : 2 ^ (n + m) ≡ 2 ^ m * 2 ^ n
  whole = pow-add 2 n m ∙ mul_comm (2 ^ n) (2 ^ m)

  s_wide : low (n + m) (join n s₀ s₁) ≡ low m s₁ * 2 ^ n + low n s₀
  s_wide = join_low n m s-low s₁ ∙ rw (mod-eq_of_lt s-low)

  d_wide : low (n + m) (join n d₀ d₁) ≡ low m d₁ * 2 ^ n + low n d₀
  d_wide = join_low n m d-low d₁ ∙ rw (mod-eq_of_lt d-low)

  wide_sum :
      sum (n + m) (join n s₀ s₁) (join n d₀ d₁) x ≡
      join n (sum n s₀ d₀ x) (sum m s₁ d₁ (add_flags n s₀ d₀ (sum n s₀ d₀ x)).c)
  unfolding sum
  wide_sum =
      let c₀ = (add_flags n s₀ d₀ (sum n s₀ d₀ x)).c in
      let r₁ = sum m s₁ d₁ c₀ in
      rw (s_wide, d_wide, whole)
      (wide_sum_digits (2 ^ n) (2 ^ m) (low n s₀) (low m s₁) (low n d₀) (low m d₁) (digit x) (digit c₀) (digit (add_flags m s₁ d₁ r₁).c)
      (sum n s₀ d₀ x) r₁ (sum_lt n s₀ d₀ x) (sum_lt m s₁ d₁ c₀) (add_exact n n_pos s₀ d₀ x) (add_exact m m-pos s₁ d₁ c₀))

  wide_difference :
      difference (n + m) (join n s₀ s₁) (join n d₀ d₁) x ≡
      join n (difference n s₀ d₀ x) (difference m s₁ d₁ (sub_flags n s₀ d₀ (difference n s₀ d₀ x)).c)
  unfolding difference
  wide_difference =
      let c₀ = (sub_flags n s₀ d₀ (difference n s₀ d₀ x)).c in
      let r₁ = difference m s₁ d₁ c₀ in
      rw (s_wide, d_wide, whole)
      (wide_difference_digits (2 ^ n) (2 ^ m) (low n s₀) (low m s₁) (low n d₀) (low m d₁) (digit x) (digit c₀) (sub_flags m s₁ d₁ r₁).c
      (difference n s₀ d₀ x) r₁ (difference_lt n s₀ d₀ x) (difference_lt m s₁ d₁ c₀) (sub_exact n n_pos s₀ d₀ x) (sub_exact m m-pos s₁ d₁ c₀))

  module _ (r₀ r₁ : ℕ) (r-low : r₀ < 2 ^ n) where
    r_zero : eqb (low (n + m) (join n r₀ r₁)) 0 ≡ (eqb (low m r₁) 0 && eqb (low n r₀) 0)
    r_zero = rw (join_low n m r-low r₁, mod-eq_of_lt r-low) (join_zero n r₀ (low m r₁))

    -- for any formulas of V and C on the three top bits
    wide_flags :
        (over carry : Bool → Bool → Bool → Bool) →
        let flags : (k s d r : ℕ) → Flags = λ k s d r. arith_flags k r (over (top k s) (top k d) (top k r)) (carry (top k s) (top k d) (top k r)) in
        flags (n + m) (join n s₀ s₁) (join n d₀ d₁) (join n r₀ r₁) ≡ keep_z (flags n s₀ d₀ r₀) (flags m s₁ d₁ r₁)
    wide_flags over carry =
        rw (join_top n m m-pos s-low s₁, join_top n m m-pos d-low d₁, join_top n m m-pos r-low r₁, r_zero, and_comm (eqb (low m r₁) 0))

  -- x goes into the low part: false for ADD, X for ADDX. ADDX does the high part. A Z that came into the low part is kept by `keep_z_assoc`.
  pub wide_add :
      let s = join n s₀ s₁ in
      let d = join n d₀ d₁ in
      let f₀ = add_flags n s₀ d₀ (sum n s₀ d₀ x) in
      let r₁ = sum m s₁ d₁ f₀.x in
      (join n (sum n s₀ d₀ x) r₁ ≡ sum (n + m) s d x) ×
      (keep_z f₀ (add_flags m s₁ d₁ r₁) ≡ add_flags (n + m) s d (sum (n + m) s d x))
  unfolding add_flags
  wide_add =
      let r₀ = sum n s₀ d₀ x in
      let r₁ = sum m s₁ d₁ (add_flags n s₀ d₀ r₀).c in
      (sym wide_sum, sym (wide_flags r₀ r₁ (sum_lt n s₀ d₀ x) add_v add_c) ∙ ap (add_flags (n + m) (join n s₀ s₁) (join n d₀ d₁)) (sym wide_sum))

  -- The same of SUB, SUBX.
  pub wide_sub :
      let s = join n s₀ s₁ in
      let d = join n d₀ d₁ in
      let f₀ = sub_flags n s₀ d₀ (difference n s₀ d₀ x) in
      let r₁ = difference m s₁ d₁ f₀.x in
      (join n (difference n s₀ d₀ x) r₁ ≡ difference (n + m) s d x) ×
      (keep_z f₀ (sub_flags m s₁ d₁ r₁) ≡ sub_flags (n + m) s d (difference (n + m) s d x))
  unfolding sub_flags
  wide_sub =
      let r₀ = difference n s₀ d₀ x in
      let r₁ = difference m s₁ d₁ (sub_flags n s₀ d₀ r₀).c in
      (sym wide_difference, sym (wide_flags r₀ r₁ (difference_lt n s₀ d₀ x) sub_v sub_c) ∙ ap (sub_flags (n + m) (join n s₀ s₁) (join n d₀ d₁)) (sym wide_difference))

-- The operations at any two sizes. The low operands have no bits above the first size.
module _ (first second : Size) (s₀ s₁ d₀ d₁ : ℕ) (f : Flags) (s-low : s₀ < 2 ^ bits_of first) (d-low : d₀ < 2 ^ bits_of first) where
  -- the two sizes, and the whole operands
  abbrev n : ℕ
  n = bits_of first

  abbrev m : ℕ
  m = bits_of second

  abbrev s : ℕ
  s = join n s₀ s₁

  abbrev d : ℕ
  d = join n d₀ d₁

  pub add_addx :
      let a = add_of first s₀ d₀ f in
      let b = addx_of second s₁ d₁ a.flags in
      (join n a.result b.result ≡ sum (n + m) s d false) × (b.flags ≡ add_flags (n + m) s d (sum (n + m) s d false))
  add_addx = wide_add n m (bits_pos first) (bits_pos second) s₀ s₁ d₀ d₁ s-low d-low false

  pub sub_subx :
      let a = sub_of first s₀ d₀ f in
      let b = subx_of second s₁ d₁ a.flags in
      (join n a.result b.result ≡ difference (n + m) s d false) × (b.flags ≡ sub_flags (n + m) s d (difference (n + m) s d false))
  sub_subx = wide_sub n m (bits_pos first) (bits_pos second) s₀ s₁ d₀ d₁ s-low d-low false

  pub add_addx_exact :
      let a = add_of first s₀ d₀ f in
      let b = addx_of second s₁ d₁ a.flags in
      low (n + m) d + low (n + m) s ≡ join n a.result b.result + digit b.flags.x * 2 ^ (n + m)
  unfolding add_flags
  add_addx_exact =
      let x-is = ap (λ (g : Flags). digit g.x) add_addx.1 in
      rw (add_addx.0, x-is)
      (omega (arith, add_exact (n + m) (omega (arith, bits_pos first)) s d false))

  pub sub_subx_exact :
      let a = sub_of first s₀ d₀ f in
      let b = subx_of second s₁ d₁ a.flags in
      low (n + m) s + join n a.result b.result ≡ low (n + m) d + digit b.flags.x * 2 ^ (n + m)
  unfolding sub_flags
  sub_subx_exact =
      let x-is = ap (λ (g : Flags). digit g.x) sub_subx.1 in
      rw (sub_subx.0, x-is)
      (omega (arith, sub_exact (n + m) (omega (arith, bits_pos first)) s d false))

pub neg_negx :
    (first second : Size) (d₀ d₁ : ℕ) (f : Flags) → d₀ < 2 ^ bits_of first →
    let n = bits_of first in
    let m = bits_of second in
    let d = join n d₀ d₁ in
    let a = neg_of first d₀ f in
    let b = negx_of second d₁ a.flags in
    (join n a.result b.result ≡ difference (n + m) d 0 false) × (b.flags ≡ neg_flags (n + m) d (difference (n + m) d 0 false))
neg_negx first second d₀ d₁ f d-low =
    let zeros : 0 * 2 ^ bits_of first + 0 ≡ 0 = omega arith in
    simp (zeros, neg_flags_lem) at
    (wide_sub (bits_of first) (bits_of second) (bits_pos first) (bits_pos second) d₀ d₁ 0 0 d-low (pow_pos (bits_of first)) false)
