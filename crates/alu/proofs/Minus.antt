-- Differences of naturals in the integers: how they add, compare, multiply and fit n bits.
-- Assumes nothing.
use mathlib.Core.Path.{◌≡◌, ◌∙◌, ap, sym, refl}
use mathlib.Core.Bool.{Bool, true, false, not, cond, ◌&&◌, ◌||◌}
use Prim.Native.Nat.{ℕ, zero, suc, ◌+◌, ◌-◌, ◌*◌, ◌^◌, ◌≤◌, ◌<◌}
use native.Mathlib.Omega.{arith}
use lib.Dec.{leb, ltb}
use lib.IntN.{ℤ, pos, negsuc, neg_ℤ, sub_ℕ, ◌+ℤ◌, ◌-ℤ◌, ◌*ℤ◌, +ℤ_assoc, +ℤ_comm, +ℤ_idl, +ℤ_idr, +ℤ_invr, neg_ℤ-+ℤ, neg_ℤ-neg_ℤ, pos-*ℤ-pos, negsuc-*ℤ-pos}
use lib.Signed.{le_z, lt_z}
use borrow.Author.Tests.{lt-ltb, le-ltb, le-leb, lt-leb, ltb-true, ltb-false}
use Rattle.alu.specs.Bits.{fits}

abbrev pub minus : ℕ → ℕ → ℤ
minus a b = pos a -ℤ pos b

pub exchange : (a b c d : ℤ) → (a +ℤ b) +ℤ (c +ℤ d) ≡ (a +ℤ c) +ℤ (b +ℤ d)
exchange a b c d =
    +ℤ_assoc a b (c +ℤ d) ∙ ap (λ (z : ℤ). a +ℤ z) (sym (+ℤ_assoc b c d) ∙ ap (λ (z : ℤ). z +ℤ d) (+ℤ_comm b c) ∙ +ℤ_assoc c b d) ∙
    sym (+ℤ_assoc a c (b +ℤ d))

pub minus_add : (a b c d : ℕ) → minus a b +ℤ minus c d ≡ minus (a + c) (b + d)
minus_add a b c d =
    exchange (pos a) (neg_ℤ (pos b)) (pos c) (neg_ℤ (pos d)) ∙ ap (λ (z : ℤ). pos (a + c) +ℤ z) (sym (neg_ℤ-+ℤ (pos b) (pos d)))

pub minus_zero : (a : ℕ) → minus a 0 ≡ pos a
minus_zero a = +ℤ_idr (pos a)

pub zero_minus : (a : ℕ) → minus 0 a ≡ neg_ℤ (pos a)
zero_minus a = +ℤ_idl (neg_ℤ (pos a))

pub minus_back : (a b : ℕ) → neg_ℤ (minus a b) ≡ minus b a
minus_back a b =
    neg_ℤ-+ℤ (pos a) (neg_ℤ (pos b)) ∙ +ℤ_comm (neg_ℤ (pos a)) (neg_ℤ (neg_ℤ (pos b))) ∙ ap (λ (z : ℤ). z +ℤ neg_ℤ (pos a)) (neg_ℤ-neg_ℤ (pos b))

pub both : (a b e : ℕ) → minus (a + e) (b + e) ≡ minus a b
both a b e = sym (minus_add a b e e) ∙ ap (λ (z : ℤ). minus a b +ℤ z) (+ℤ_invr (pos e)) ∙ +ℤ_idr (minus a b)

-- two differences are equal where the crossed sums are
pub minus_same : (a b c d : ℕ) → a + d ≡ c + b → minus a b ≡ minus c d
minus_same a b c d e =
    let turn : b + d ≡ d + b = omega arith in sym (both a b d) ∙ rw (e, turn) (both c d b)

-- and compare as the crossed sums do
pub ltb_same : (i j k l : ℕ) → (i < j → k < l) → (j ≤ i → l ≤ k) → ltb i j ≡ ltb k l
ltb_same i j k l below above = go (ltb i j) refl where
  go : (p : Bool) → ltb i j ≡ p → p ≡ ltb k l
  go true e = sym (lt-ltb k l (below (ltb-true i j e)))
  go false e = sym (le-ltb k l (above (ltb-false i j e)))

pub minus_is : (a b : ℕ) → minus a b ≡ sub_ℕ a b
minus_is a zero =
    let keep : a - 0 ≡ a + 0 = omega arith in rw (le-ltb a 0 (omega arith), keep)
minus_is a (suc b) = refl

sub_less' : (a b c d : ℕ) → lt_z (sub_ℕ a b) (sub_ℕ c d) ≡ ltb (a + d) (c + b)
sub_less' a b c d = go (ltb a b) (ltb c d) refl refl where
  go :
      (p q : Bool) → ltb a b ≡ p → ltb c d ≡ q →
      lt_z (cond p (negsuc (b - suc a)) (pos (a - b))) (cond q (negsuc (d - suc c)) (pos (c - d))) ≡ ltb (a + d) (c + b)
  go true true e f =
      let a<b : a < b = ltb-true a b e in
      let c<d : c < d = ltb-true c d f in
      ltb_same (d - suc c) (b - suc a) (a + d) (c + b) (λ h. omega arith) (λ h. omega arith)
  go true false e f =
      let a<b : a < b = ltb-true a b e in let d≤c : d ≤ c = ltb-false c d f in sym (lt-ltb (a + d) (c + b) (omega arith))
  go false true e f =
      let b≤a : b ≤ a = ltb-false a b e in let c<d : c < d = ltb-true c d f in sym (le-ltb (a + d) (c + b) (omega arith))
  go false false e f =
      let b≤a : b ≤ a = ltb-false a b e in
      let d≤c : d ≤ c = ltb-false c d f in
      ltb_same (a - b) (c - d) (a + d) (c + b) (λ h. omega arith) (λ h. omega arith)

pub minus_less : (a b c d : ℕ) → lt_z (minus a b) (minus c d) ≡ ltb (a + d) (c + b)
minus_less a b c d = rw (minus_is a b, minus_is c d) (sub_less' a b c d)

pub leb_not : (i j : ℕ) → leb i j ≡ not (ltb j i)
leb_not i j = go (ltb j i) refl where
  go : (p : Bool) → ltb j i ≡ p → leb i j ≡ not p
  go true e = lt-leb i j (ltb-true j i e)
  go false e = le-leb i j (ltb-false j i e)

pub le_z_not : (a b : ℤ) → le_z a b ≡ not (lt_z b a)
le_z_not (pos a) (pos b) = leb_not a b
le_z_not (pos a) (negsuc b) = refl
le_z_not (negsuc a) (pos b) = refl
le_z_not (negsuc a) (negsuc b) = leb_not b a

-- a difference doesn't fit n bits: it is below -h, or h or more, with h = 2 ^ (n - 1)
pub no_fit : (n p q : ℕ) → not (fits n (minus p q)) ≡ (ltb (p + 2 ^ (n - 1)) q || leb (q + 2 ^ (n - 1)) p)
no_fit n p q =
    rw (le_z_not (neg_ℤ (pos h)) (minus p q), below, above, leb_not (q + h) p) (outside (ltb (p + h) q) (ltb p (q + h))) where
      h : ℕ
      h = 2 ^ (n - 1)

      below : lt_z (minus p q) (neg_ℤ (pos h)) ≡ ltb (p + h) q
      below =
          ap (λ (z : ℤ). lt_z (minus p q) z) (sym (zero_minus h)) ∙ minus_less p q 0 h ∙
          ltb_same (p + h) (0 + q) (p + h) q (λ l. omega arith) (λ l. omega arith)

      above : lt_z (minus p q) (pos h) ≡ ltb p (q + h)
      above =
          ap (λ (z : ℤ). lt_z (minus p q) z) (sym (minus_zero h)) ∙ minus_less p q h 0 ∙
          ltb_same (p + 0) (h + q) p (q + h) (λ l. omega arith) (λ l. omega arith)

      outside : (a b : Bool) → not (not a && b) ≡ (a || not b)
      outside true true = refl
      outside true false = refl
      outside false true = refl
      outside false false = refl

-- a product with a natural
pub minus_times : (a b m : ℕ) → minus a b *ℤ pos m ≡ minus (a * m) (b * m)
minus_times a b m = ap (λ (z : ℤ). z *ℤ pos m) (minus_is a b) ∙ go (ltb a b) refl where
  go : (p : Bool) → ltb a b ≡ p → cond p (negsuc (b - suc a)) (pos (a - b)) *ℤ pos m ≡ minus (a * m) (b * m)
  go true e =
      let a<b : a < b = ltb-true a b e in
      let d = suc (b - suc a) in
      let is : b * m ≡ a * m + d * m = ap (λ (x : ℕ). x * m) {x = b} {y = a + d} (omega arith) ∙ omega arith in
      negsuc-*ℤ-pos (b - suc a) m ∙ sym (zero_minus (d * m)) ∙ minus_same 0 (d * m) (a * m) (b * m) (omega arith)
  go false e =
      let b≤a : b ≤ a = ltb-false a b e in
      let d = a - b in
      let is : a * m ≡ b * m + d * m = ap (λ (x : ℕ). x * m) {x = a} {y = b + d} (omega arith) ∙ omega arith in
      pos-*ℤ-pos d m ∙ sym (minus_zero (d * m)) ∙ minus_same (d * m) 0 (a * m) (b * m) (omega arith)
