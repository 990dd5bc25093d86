-- From a balance of whole numbers to the rule: sums and differences modulo M, halves, and the Manual's C. Assumes nothing.
use mathlib.Core.Path.{◌≡◌, refl, sym, ap, ◌∙◌, subst}
use mathlib.Core.Bool.{Bool, true, false, not, cond}
use Prim.Native.Nat.{ℕ, ◌+◌, ◌-◌, ◌*◌, ◌/◌, ◌%◌, ◌^◌, ◌≤◌, ◌<◌}
use native.Mathlib.Nat.{mod-eq_of_lt, add-mul-mod_self_left}
use native.Mathlib.Omega.{arith}
use borrow.Author.Tests.{le-leb, lt-leb, lt-ltb, le-ltb, eq-eqb, ne_eqb}
use lib.Dec.{leb, ltb, eqb}
use lib.Pow.{pow_pos}
use Rattle.alu.specs.declared.types.Flags.{Flags}
use Rattle.alu.specs.Bits.{low, lowest, digit}
use Rattle.alu.specs.ConditionCodes.{add_flags, sub_flags, neg_flags}
use Rattle.alu.specs.Arith.{sum, difference}
use Rattle.alu.proofs.Laws.{sum_lt, difference_lt, add_exact, sub_exact, neg_flags_lem}

module _ (M : ℕ) where
  -- a sum's remainder and carry
  pub sum_mod : (t r : ℕ) (b : Bool) → r < M → t ≡ r + M * digit b → t % M ≡ r
  sum_mod t r b h e = ap (λ (k : ℕ). k % M) e ∙ (add-mul-mod_self_left r M (digit b) ∙ mod-eq_of_lt h)

  pub sum_carry : (t r : ℕ) (b : Bool) → r < M → t ≡ r + M * digit b → leb M t ≡ b
  sum_carry t r true h e = le-leb M t (omega arith)
  sum_carry t r false h e = lt-leb M t (omega arith)

  -- a difference's remainder and borrow
  pub sub_mod : (d s r : ℕ) (b : Bool) → r < M → s ≤ M → r + s ≡ d + M * digit b → (d + (M - s)) % M ≡ r
  sub_mod d s r true h l e = sum_mod (d + (M - s)) r false h (omega arith)
  sub_mod d s r false h l e = sum_mod (d + (M - s)) r true h (omega arith)

  pub sub_borrow : (d s r : ℕ) (b : Bool) → r < M → s < M → r + s ≡ d + M * digit b → ltb d s ≡ b
  sub_borrow d s r true h l e = lt-ltb d s (omega arith)
  sub_borrow d s r false h l e = le-ltb d s (omega arith)

  pub neg_mod : (d r : ℕ) (b : Bool) → r < M → d ≤ M → r + d ≡ M * digit b → (M - d) % M ≡ r
  neg_mod d r b h l e = ap (λ (k : ℕ). k % M) (omega arith) ∙ sub_mod 0 d r b h l (omega arith)

  pub neg_borrow : (d r : ℕ) (b : Bool) → r < M → r + d ≡ M * digit b → not (eqb d 0) ≡ b
  neg_borrow d r true h e = ap not (ne_eqb d 0 (λ z. omega arith))
  neg_borrow d r false h e = ap not (eq-eqb d 0 (omega arith))

  -- a number below M and a carry, by what they make together
  same_number : (r q : ℕ) (b c : Bool) → r < M → q < M → r + M * digit b ≡ q + M * digit c → r ≡ q
  same_number r q true true h g e = omega arith
  same_number r q true false h g e = absurd (omega arith)
  same_number r q false true h g e = absurd (omega arith)
  same_number r q false false h g e = omega arith

  same_carry : (r q : ℕ) (b c : Bool) → r < M → q < M → r + M * digit b ≡ q + M * digit c → b ≡ c
  same_carry r q true true h g e = refl
  same_carry r q true false h g e = absurd (omega arith)
  same_carry r q false true h g e = absurd (omega arith)
  same_carry r q false false h g e = refl

-- a half of d, or of d + M where x is set, and the digit that goes out; M is even
pub half_value : (M h d r : ℕ) (b x : Bool) → M ≡ 2 * h → 2 * r + digit b ≡ d + M * digit x → r ≡ cond x ((d + M) / 2) (d / 2)
half_value M h d r true true m e = omega arith
half_value M h d r true false m e = omega arith
half_value M h d r false true m e = omega arith
half_value M h d r false false m e = omega arith

pub half_out : (M h d r : ℕ) (b x : Bool) → M ≡ 2 * h → 2 * r + digit b ≡ d + M * digit x → lowest d ≡ b
half_out M h d r true true m e = eq-eqb (d % 2) 1 (omega arith)
half_out M h d r true false m e = eq-eqb (d % 2) 1 (omega arith)
half_out M h d r false true m e = ne_eqb (d % 2) 1 (λ z. omega arith)
half_out M h d r false false m e = ne_eqb (d % 2) 1 (λ z. omega arith)

-- the Manual's C of a sum and of a difference is the carry that the numbers leave, in n bits
module _ (n : ℕ) (pos : 0 < n) (s d r : ℕ) (x k : Bool) (hs : s < 2 ^ n) (hd : d < 2 ^ n) (hr : r < 2 ^ n) where
  pub add_c_lem : d + s + digit x ≡ r + 2 ^ n * digit k → (add_flags n s d r).c ≡ k
  add_c_lem e =
      let c = (add_flags n s d (sum n s d x)).c in
      let ls : low n s ≡ s = mod-eq_of_lt hs in
      let ld : low n d ≡ d = mod-eq_of_lt hd in
      let both : r + 2 ^ n * digit k ≡ sum n s d x + 2 ^ n * digit c = omega (arith, add_exact n pos s d x) in
      subst (λ (q : ℕ). (add_flags n s d q).c ≡ k) (sym (same_number (2 ^ n) r (sum n s d x) k c hr (sum_lt n s d x) both))
      (sym (same_carry (2 ^ n) r (sum n s d x) k c hr (sum_lt n s d x) both))

  pub sub_c_lem : r + s + digit x ≡ d + 2 ^ n * digit k → (sub_flags n s d r).c ≡ k
  sub_c_lem e =
      let c = (sub_flags n s d (difference n s d x)).c in
      let ls : low n s ≡ s = mod-eq_of_lt hs in
      let ld : low n d ≡ d = mod-eq_of_lt hd in
      let both : r + 2 ^ n * digit c ≡ difference n s d x + 2 ^ n * digit k = omega (arith, sub_exact n pos s d x) in
      subst (λ (q : ℕ). (sub_flags n s d q).c ≡ k) (sym (same_number (2 ^ n) r (difference n s d x) c k hr (difference_lt n s d x) both))
      (same_carry (2 ^ n) r (difference n s d x) c k hr (difference_lt n s d x) both)

pub neg_c_lem : (n : ℕ) → 0 < n → (d r : ℕ) (x k : Bool) → d < 2 ^ n → r < 2 ^ n → r + d + digit x ≡ 2 ^ n * digit k → (neg_flags n d r).c ≡ k
neg_c_lem n pos d r x k hd hr e =
    ap (λ (f : Flags). f.c) (sym (neg_flags_lem n d r)) ∙ sub_c_lem n pos d 0 r x k hd (pow_pos n) hr (omega arith)
