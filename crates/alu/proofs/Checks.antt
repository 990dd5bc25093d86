-- CHK's classes, over any number n of bits:
--     check_pass       Pass is 0 <= value <= bound, so a trap is the Manual's "below 0 or above the bound"
--     pass_sign        then the value is not below 0
--     pass_class       no other class has Pass's number
--     check_raised     the class by the comparisons that the code makes, of raised readings
--     pass_low         Pass by the comparisons that the code makes first, of the low bits
-- Assumes nothing.
use mathlib.Core.Path.{◌≡◌, ◌∙◌, ap, sym, subst, refl}
use mathlib.Core.Bool.{Bool, true, false, not, cond, ◌&&◌, ◌||◌}
use Prim.Native.Nat.{ℕ, ◌+◌, ◌-◌, ◌^◌, ◌≤◌, ◌<◌}
use native.Mathlib.Omega.{arith}
use lib.Dec.{T, eqb, leb, ltb}
use lib.Pow.{pow_pos}
use lib.IntN.{pos, ◌-ℤ◌}
use lib.Signed.{le_z, lt_z}
use borrow.Author.Tests.{lt-ltb, le-ltb, lt-leb, ltb-false, leb-true, leb-false, not-true}
use Rattle.alu.specs.declared.types.Check.{Check}
use Rattle.alu.specs.declared.types.Check.TheVariants.{Pass, Over, Short, Below}
use Rattle.alu.specs.Bits.{low, top, raised, signed, fits}
use Rattle.alu.specs.Answers.{class_of}
use Rattle.alu.specs.Arith.{check_of}
use Rattle.alu.proofs.Minus.{minus, le_z_not, no_fit}
use Rattle.alu.proofs.Signed.{Reads, reads}
use Rattle.alu.proofs.Integers.{signed_less, signed_below_zero, signed_minus}

-- the tests of `check_of`: over, below 0, out of range
abbrev pub classed : (over below far : Bool) → Check
classed over below far = cond over Over (cond (below && far) Short (cond below Below Pass))

settled : (over below far : Bool) → eqb (class_of (classed over below far)) 0 ≡ (not below && not over)
settled true true far = refl
settled true false far = refl
settled false true true = refl
settled false true false = refl
settled false false far = refl

pub check_pass : (n bound value : ℕ) → eqb (class_of (check_of n bound value)) 0 ≡ (le_z (pos 0) (signed n value) && le_z (signed n value) (signed n bound))
unfolding check_of
check_pass n bound value =
    let b = signed n bound in
    let v = signed n value in
    rw (le_z_not (pos 0) v, le_z_not v b) (settled (lt_z b v) (lt_z v (pos 0)) (not (fits n (v -ℤ b))))

-- then the value is not below 0
pub pass_sign : (n bound value : ℕ) → check_of n bound value ≡ Pass → lt_z (signed n value) (pos 0) ≡ false
pass_sign n bound value e =
    let v = signed n value in
    let passes : (le_z (pos 0) v && le_z v (signed n bound)) ≡ true = sym (check_pass n bound value) ∙ ap (λ (k : Check). eqb (class_of k) 0) e in
    not-true (lt_z v (pos 0)) (sym (le_z_not (pos 0) v) ∙ first (le_z (pos 0) v) (le_z v (signed n bound)) passes) where
      first : (p q : Bool) → (p && q) ≡ true → p ≡ true
      first true q both = refl
      first false q both = both

pub pass_class : (k : Check) → eqb (class_of k) 0 ≡ true → k ≡ Pass
pass_class Pass e = refl
pass_class Over e = absurd (subst T (sym e) tt)
pass_class Short e = absurd (subst T (sym e) tt)
pass_class Below e = absurd (subst T (sym e) tt)

-- v - b, of raised readings with v no greater than b, is out of range only below
far_below : (n v b : ℕ) → v ≤ b → not (fits n (minus v b)) ≡ ltb (v + 2 ^ (n - 1)) b
far_below n v b v≤b =
    let under : v < b + 2 ^ (n - 1) = omega (arith, pow_pos (n - 1)) in
    no_fit n v b ∙ rw (lt-leb (b + 2 ^ (n - 1)) v under) (or_false (ltb (v + 2 ^ (n - 1)) b)) where
      or_false : (p : Bool) → (p || false) ≡ p
      or_false true = refl
      or_false false = refl

pub check_raised :
    (n : ℕ) → 0 < n → (bound value : ℕ) {b v : ℕ} → b ≡ raised n bound → v ≡ raised n value →
    check_of n bound value ≡ classed (ltb b v) (ltb v (2 ^ (n - 1))) (ltb (v + 2 ^ (n - 1)) b)
unfolding check_of
check_raised n positive bound value b-is v-is =
    rw (b-is, v-is, signed_less n positive bound value, signed_below_zero n positive value, signed_minus n positive bound value)
    (go (ltb (raised n bound) (raised n value)) refl) where
      go :
          (over : Bool) → ltb (raised n bound) (raised n value) ≡ over →
          classed over (ltb (raised n value) (2 ^ (n - 1))) (not (fits n (minus (raised n value) (raised n bound)))) ≡
          classed over (ltb (raised n value) (2 ^ (n - 1))) (ltb (raised n value + 2 ^ (n - 1)) (raised n bound))
      go true e = refl
      go false e = rw (far_below n (raised n value) (raised n bound) (ltb-false (raised n bound) (raised n value) e))

-- Pass by the low bits: a bound whose top bit is clear, and a value that is not above it
pub pass_low :
    (n : ℕ) → 0 < n → (bound value : ℕ) →
    eqb (class_of (check_of n bound value)) 0 ≡ (leb (low n value) (low n bound) && ltb (low n bound) (2 ^ (n - 1)))
pass_low n positive bound value =
    let h = 2 ^ (n - 1) in
    let b = raised n bound in
    let v = raised n value in
    ap (λ (k : Check). eqb (class_of k) 0) (check_raised n positive bound value refl refl) ∙ settled (ltb b v) (ltb v h) (ltb (v + h) b) ∙
    by_low (top n bound) (top n value) (reads n positive bound) (reads n positive value) where
      and_false : (p : Bool) → (p && false) ≡ false
      and_false true = refl
      and_false false = refl

      by_low :
          (p q : Bool) {h b v b' v' : ℕ} → Reads h p b b' → Reads h q v v' → (not (ltb v' h) && not (ltb b' v')) ≡ (leb v b && ltb b h)
      by_low true true {h} {b} {v} {b'} {v'} p q = rw (lt-ltb v' h (omega arith), le-ltb b h (omega arith)) (sym (and_false (leb v b)))
      by_low false true {h} {b} {v} {b'} {v'} p q = rw (lt-ltb v' h (omega arith), lt-leb v b (omega arith))
      by_low true false {h} {b} {v} {b'} {v'} p q = rw (lt-ltb b' v' (omega arith), le-ltb b h (omega arith), le-ltb v' h (omega arith)) (sym (and_false (leb v b)))
      by_low false false {h} {b} {v} {b'} {v'} p q = rw (le-ltb v' h (omega arith), lt-ltb b h (omega arith)) (order (leb v b) refl) where
        order : (t : Bool) → leb v b ≡ t → not (ltb b' v') ≡ (leb v b && true)
        order true e = rw (e, le-ltb b' v' (omega (arith, leb-true v b e)))
        order false e = rw (e, lt-ltb b' v' (omega (arith, leb-false v b e)))
