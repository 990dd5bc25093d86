-- The Manual's V and C in the forms that the code and the laws use: V as one word whose top bit is the flag, and SUB's and NEG's by ADD's.
-- A formula of three bits is settled by its eight settings. Assumes nothing.
use mathlib.Core.Path.{◌≡◌, refl}
use Prim.Native.Nat.{ℕ}
use mathlib.Core.Bool.{Bool, true, false, ◌&&◌, xor, beq}
use lib.Dec.{T}
use lib.Bits.{bit_and, bit_xor}
use Rattle.alu.specs.Bits.{top}
use Rattle.alu.specs.ConditionCodes.{add_v, add_c, sub_v, sub_c, neg_v, neg_c}
use Rattle.alu.specs.Sums.{at_both}
use Rattle.alu.proofs.Bitwise.{top_and, top_xor}

at : (test : Bool → Bool) → T (at_both test) → (b : Bool) → T (test b)
unfolding at_both
at test passed true = go (test true) passed where
  go : (p : Bool) → T (p && test false) → T p
  go true t = tt
  go false t = t
at test passed false = go (test true) passed where
  go : (p : Bool) → T (p && test false) → T (test false)
  go true t = t
  go false t = absurd t

beq_same : (a b : Bool) → T (beq a b) → a ≡ b
beq_same true true t = refl
beq_same true false t = absurd t
beq_same false true t = absurd t
beq_same false false t = refl

-- two formulas are equal if they agree at all eight settings
agreeing : (f g : Bool → Bool → Bool → Bool) (s d r : Bool) → Bool
agreeing f g s d r = beq (f s d r) (g s d r)

agree :
    (f g : Bool → Bool → Bool → Bool) → T (at_both (λ s. at_both (λ d. at_both (λ r. agreeing f g s d r)))) → (s d r : Bool) → f s d r ≡ g s d r
unfolding agreeing
agree f g passed s d r =
    let at-s = at (λ x. at_both (λ y. at_both (λ z. agreeing f g x y z))) passed s in
    let at-d = at (λ y. at_both (λ z. agreeing f g s y z)) at-s d in
    beq_same (f s d r) (g s d r) (at (λ z. agreeing f g s d z) at-d r)

-- the source's word of overflow
add_v_short : (s d r : Bool) → (xor s r && xor d r) ≡ add_v s d r
unfolding xor at_both agreeing
add_v_short = agree (λ s d r. xor s r && xor d r) add_v tt

pub overflow_word : (n s d r : ℕ) → top n (bit_and (bit_xor s r) (bit_xor d r)) ≡ add_v (top n s) (top n d) (top n r)
overflow_word n s d r =
    rw (top_and n (bit_xor s r) (bit_xor d r), top_xor n s r, top_xor n d r) (add_v_short (top n s) (top n d) (top n r))

-- d - s = r is s + r = d: the formulas of SUB are those of ADD with the result and the destination exchanged
pub swap_v : (s d r : Bool) → add_v s r d ≡ sub_v s d r
unfolding at_both agreeing
swap_v = agree (λ s d r. add_v s r d) sub_v tt

pub swap_c : (s d r : Bool) → add_c s r d ≡ sub_c s d r
unfolding at_both agreeing
swap_c = agree (λ s d r. add_c s r d) sub_c tt

-- the formulas of NEG are those of SUB from a destination with no top bit
pub neg_v_is : (d r : Bool) → sub_v d false r ≡ neg_v d r
unfolding at_both agreeing
neg_v_is = agree (λ s d r. sub_v d false r) (λ s d r. neg_v d r) tt false

pub neg_c_is : (d r : Bool) → sub_c d false r ≡ neg_c d r
unfolding at_both agreeing
neg_c_is = agree (λ s d r. sub_c d false r) (λ s d r. neg_c d r) tt false
