-- What the rule's table says in signed numbers, over any number n of bits; at n = 32w these are the numbers of a recipe. Assumes nothing.
--     halve_signed                       twice the half and the bit that went out are the number, all read as signed: the half is rounded down
--     add_means, sub_means, neg_means    the flags after add, sub and neg: C and X are the carry or borrow of the whole number, V says that the true signed
--                                        result doesn't fit n bits, N that it is below 0 as it stands, Z that it is 0
use mathlib.Core.Path.{◌≡◌, sym, ap, ◌∙◌, subst}
use mathlib.Core.Bool.{Bool, true, false, not, cond}
use Prim.Native.Nat.{ℕ, ◌+◌, ◌-◌, ◌*◌, ◌/◌, ◌%◌, ◌^◌, ◌<◌}
use native.Mathlib.Nat.{mod-eq_of_lt, mod-lt, add-zero}
use native.Mathlib.Omega.{arith}
use lib.Dec.{leb, ltb, eqb}
use lib.Pow.{pow_pos}
use lib.IntN.{ℤ, pos, ◌+ℤ◌}
use lib.Signed.{lt_z}
use Rattle.alu.specs.declared.types.Flags.{Flags}
use Rattle.alu.specs.Bits.{lowest, top, digit, signed, raised, fits}
use Rattle.alu.specs.ConditionCodes.{arith_flags, add_flags, sub_flags, neg_flags}
use Rattle.alu.specs.Arith.{sum, difference, true_sum, true_difference}
use Rattle.alu.proofs.Laws.{add_carry, sub_borrow, neg_flags_lem}
use Rattle.alu.proofs.Integers.{signed_raised, signed_sign, add_overflow, sub_overflow}
use Rattle.alu.proofs.Minus.{minus, minus_add, minus_zero, minus_same}
use Rattle.alu.proofs.Signed.{Reads, reads, pow_half}
use Rattle.alu.proofs.Turns.{digit_lowest}
use Rattle.recipes.specs.declared.types.Verb.TheVariants.{Add, Sub, Neg, Halve}
use Rattle.recipes.specs.Rule.{value_after}

-- flags f of a result r in n bits: `exact` is the true signed result
pub record Means (n r : ℕ) (exact : ℤ) (carry : Bool) (f : Flags) : Type 0 where
  pub carried : f.c ≡ carry
  pub extended : f.x ≡ carry
  pub overflow : f.v ≡ not (fits n exact)
  pub sign : f.n ≡ lt_z (signed n r) (pos 0)
  pub zero : f.z ≡ eqb r 0

-- N and Z of the arithmetic rows
means : (n r : ℕ) (exact : ℤ) (v c carry : Bool) → 0 < n → r < 2 ^ n → c ≡ carry → v ≡ not (fits n exact) → Means n r exact carry (arith_flags n r v c)
means n r exact v c carry some h e g =
    record { carried = e; extended = e; overflow = g; sign = sym (signed_sign n some r); zero = ap (λ (k : ℕ). eqb k 0) (mod-eq_of_lt h) }

module _ (n : ℕ) (some : 0 < n) (s d : ℕ) (hs : s < 2 ^ n) (hd : d < 2 ^ n) where
  add_is : sum n s d false ≡ value_after n Add s d
  unfolding sum
  add_is = rw (mod-eq_of_lt hs, mod-eq_of_lt hd, add-zero (d + s))

  pub add_means : Means n (value_after n Add s d) (true_sum n s d false) (leb (2 ^ n) (d + s)) (add_flags n s d (value_after n Add s d))
  unfolding add_flags
  add_means =
      let c : (add_flags n s d (sum n s d false)).c ≡ leb (2 ^ n) (d + s) = add_carry n some s d false ∙ rw (mod-eq_of_lt hs, mod-eq_of_lt hd, add-zero (d + s)) in
      means n _ _ _ _ _ some (mod-lt _ (pow_pos n)) (subst (λ (r : ℕ). (add_flags n s d r).c ≡ leb (2 ^ n) (d + s)) add_is c)
      (subst (λ (r : ℕ). (add_flags n s d r).v ≡ not (fits n (true_sum n s d false))) add_is (add_overflow n some s d false))

  sub_is : difference n s d false ≡ value_after n Sub s d
  unfolding difference
  sub_is = rw (mod-eq_of_lt hs, mod-eq_of_lt hd, add-zero s) (ap (λ (k : ℕ). k % 2 ^ n) (omega arith))

  pub sub_means : Means n (value_after n Sub s d) (true_difference n s d false) (ltb d s) (sub_flags n s d (value_after n Sub s d))
  unfolding sub_flags
  sub_means =
      let c : (sub_flags n s d (difference n s d false)).c ≡ ltb d s = sub_borrow n some s d false ∙ rw (mod-eq_of_lt hs, mod-eq_of_lt hd, add-zero s) in
      means n _ _ _ _ _ some (mod-lt _ (pow_pos n)) (subst (λ (r : ℕ). (sub_flags n s d r).c ≡ ltb d s) sub_is c)
      (subst (λ (r : ℕ). (sub_flags n s d r).v ≡ not (fits n (true_difference n s d false))) sub_is (sub_overflow n some s d false))

-- neg is 0 - d
pub neg_means : (n : ℕ) → 0 < n → (s d : ℕ) → d < 2 ^ n → Means n (value_after n Neg s d) (true_difference n d 0 false) (ltb 0 d) (neg_flags n d (value_after n Neg s d))
neg_means n some s d hd =
    let is : value_after n Sub d 0 ≡ value_after n Neg s d = ap (λ (k : ℕ). k % 2 ^ n) (omega arith) in
    subst (λ (f : Flags). Means n (value_after n Neg s d) (true_difference n d 0 false) (ltb 0 d) f) (neg_flags_lem n d (value_after n Neg s d))
    (subst (λ (r : ℕ). Means n r (true_difference n d 0 false) (ltb 0 d) (sub_flags n d 0 r)) is (sub_means n some d 0 hd (pow_pos n)))

-- ---- halve

half : (h : ℕ) (t u : Bool) (d r y z : ℕ) → Reads h t d y → Reads h u r z → r ≡ cond t ((d + 2 * h) / 2) (d / 2) → z + z + d % 2 + h ≡ y + (h + h + 0)
half h true true d r y z p q e = omega (arith, p.again, q.again, q.upper, q.below, p.upper, p.below)
half h true false d r y z p q e = omega (arith, p.again, q.again, q.upper, q.below, p.upper, p.below)
half h false true d r y z p q e = omega (arith, p.again, q.again, q.upper, q.below, p.upper, p.below)
half h false false d r y z p q e = omega (arith, p.again, q.again, q.upper, q.below, p.upper, p.below)

half_below : (M d : ℕ) (t : Bool) → d < M → cond t ((d + M) / 2) (d / 2) < M
half_below M d true h = omega arith
half_below M d false h = omega arith

pub halve_signed : (n : ℕ) → 0 < n → (s d : ℕ) → d < 2 ^ n
    → let r = value_after n Halve s d in (signed n r +ℤ signed n r) +ℤ pos (digit (lowest d)) ≡ signed n d
halve_signed n some s d hd =
    let h = 2 ^ (n - 1) in
    let r = value_after n Halve s d in
    let k = digit (lowest d) in
    let p : Reads h (top n d) d (raised n d) = subst (λ (x : ℕ). Reads h (top n d) x (raised n d)) (mod-eq_of_lt hd) (reads n some d) in
    let q : Reads h (top n r) r (raised n r) = subst (λ (x : ℕ). Reads h (top n r) x (raised n r)) (mod-eq_of_lt (half_below (2 ^ n) d (top n d) hd)) (reads n some r) in
    let is : r ≡ cond (top n d) ((d + 2 * h) / 2) (d / 2) = ap (λ (m : ℕ). cond (top n d) ((d + m) / 2) (d / 2)) (pow_half n some) in
    let e : raised n r + raised n r + d % 2 + h ≡ raised n d + (h + h + 0) = half h (top n d) (top n r) d r (raised n d) (raised n r) p q is in
    let bit : k ≡ d % 2 = digit_lowest d in
    ap (λ (z : ℤ). (z +ℤ z) +ℤ pos k) (signed_raised n some r)
    ∙ (ap (λ (z : ℤ). z +ℤ pos k) (minus_add (raised n r) h (raised n r) h)
    ∙ (ap (λ (z : ℤ). minus (raised n r + raised n r) (h + h) +ℤ z) (sym (minus_zero k))
    ∙ (minus_add (raised n r + raised n r) (h + h) k 0
    ∙ (minus_same (raised n r + raised n r + k) (h + h + 0) (raised n d) h (omega arith) ∙ sym (signed_raised n some d)))))
