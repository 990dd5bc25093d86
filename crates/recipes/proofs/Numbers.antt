-- Numbers in the registers: a row of words stored at a number's place changes that number alone, and the registers are read back from the numbers
-- (`registers_back`). Assumes nothing.
use mathlib.Core.Path.{◌≡◌, refl, sym, ap, ap₂, ◌∙◌, subst}
use mathlib.Core.Bool.{Bool}
use mathlib.Core.List.{List, [], ◌∷◌, ◌++◌}
use Prim.Native.Nat.{ℕ, zero, suc, ◌+◌, ◌*◌, ◌/◌, ◌≤◌, ◌<◌}
use native.Mathlib.Nat.{mul-le-mul_right, add-zero, zero-add, suc-add, zero-mul}
use native.Mathlib.Decide.{ℕ_discrete, dec_lt}
use native.Mathlib.Omega.{arith}
use lib.ListN.{length, get_or, set, length-set}
use lib.Seq.{sets, get_or-set_same, get_or-set_other, ext_get_or}
use Rattle.alu.specs.Bits.{top}
use Rattle.recipes.specs.Rule.{radix, value, registers_from, number_at, numbers_from, numbers_of, longs_of, registers_of}
use Rattle.recipes.specs.Demand.{EightLongs}
use Rattle.recipes.proofs.Chain.{modulus, AllBelow, targets, value_below, highest, highest_top}
use Rattle.recipes.proofs.Places.{number_fits}
use Rattle.recipes.proofs.Registers.{pairs_set, targets_pairs, Outside, Free, get_d_sets_below}

-- ---- number k at width w

-- two numbers' registers in a row
pub beside : (w j k : ℕ) → j < k → j * w + w ≤ k * w
beside w j k h = omega (arith, mul-le-mul_right w h)

-- no word of a number is overwritten before it is read as another's source
pub free : (w a b : ℕ) → Free w (a * w) (b * w)
free w a b i j h l e = go (dec_lt a b) (dec_lt b a)
  where
    go : Dec (a < b) → Dec (b < a) → ⊥
    go (yes t) u = omega (arith, beside w a b t)
    go (no t) (yes u) = omega (arith, beside w b a u)
    go (no t) (no u) =
        let same : a ≡ b = omega arith in
        let same' : a * w ≡ b * w = ap (λ (k : ℕ). k * w) same in
        omega arith

length_numbers_from : (w : ℕ) (d : List ℕ) (n k : ℕ) → length (numbers_from w d n k) ≡ n
length_numbers_from w d zero k = refl
length_numbers_from w d (suc n) k = ap suc (length_numbers_from w d n (suc k))

get_d_numbers_from : (w : ℕ) (d : List ℕ) (n k i : ℕ) → i < n → get_or (numbers_from w d n k) i 0 ≡ number_at w d (k + i)
get_d_numbers_from w d zero k i h = omega arith
get_d_numbers_from w d (suc n) k zero h = ap (number_at w d) (sym (add-zero k))
get_d_numbers_from w d (suc n) k (suc i) h =
    get_d_numbers_from w d n (suc k) i (omega arith) ∙ ap (number_at w d) (omega arith)

pub get_d_numbers : (w : ℕ) (d : List ℕ) (k : ℕ) → k < 8 / w → get_or (numbers_of w d) k 0 ≡ number_at w d k
get_d_numbers w d k h = get_d_numbers_from w d (8 / w) 0 k h ∙ ap (number_at w d) (zero-add k)

-- ---- a number is below M, and its sign is its highest word's

length_from : (n p : ℕ) (d : List ℕ) → length (registers_from n p d) ≡ n
length_from zero p d = refl
length_from (suc n) p d = ap suc (length_from n (suc p) d)

from_below_lem : (n p : ℕ) (d : List ℕ) → EightLongs d → AllBelow (registers_from n p d)
from_below_lem zero p d h = tt
from_below_lem (suc n) p d h = (h.each p, from_below_lem n (suc p) d h)

pub number_below : (w : ℕ) (d : List ℕ) (k : ℕ) → EightLongs d → number_at w d k < modulus w
number_below w d k h = rw (length_from w (k * w) d) at (value_below (registers_from w (k * w) d) (from_below_lem w (k * w) d h))

pub highest_number : (n : ℕ) (d : List ℕ) (k : ℕ) → EightLongs d → k < 8 / suc n
    → top 32 (highest (get_or d (k * suc n) 0) (registers_from n (suc (k * suc n)) d)) ≡ top (32 * suc n) (get_or (numbers_of (suc n) d) k 0)
highest_number n d k h l =
    highest_top (get_or d (k * suc n) 0) (registers_from n (suc (k * suc n)) d) (from_below_lem (suc n) (k * suc n) d h)
    ∙ ap₂ {C = Bool} (λ (m v : ℕ). top (32 * suc m) v) (length_from n (suc (k * suc n)) d) (sym (get_d_numbers (suc n) d k l))

-- ---- stores

from_set : (n p i v : ℕ) (d : List ℕ) → Outside n p i → registers_from n p (set d i v) ≡ registers_from n p d
from_set n p i v d h =
    sym (targets_pairs n p p (set d i v)) ∙ ap targets (pairs_set n p p i v d h h) ∙ targets_pairs n p p d

from_apart : (n p q : ℕ) (vs d : List ℕ) → ((k : ℕ) → p ≤ k → k < p + n → q ≤ k → k < q + length vs → ⊥)
    → registers_from n p (sets d q vs) ≡ registers_from n p d
from_apart n p q [] d h = refl
from_apart n p q (v ∷ vs) d h =
    from_apart n p (suc q) vs (set d q v) (λ k a b e l. h k a b (omega arith) (omega arith))
    ∙ from_set n p q v d (λ k a b e. h k a b (omega arith) (omega arith))

from_stored : (q : ℕ) (vs d : List ℕ) → q + length vs ≤ length d → registers_from (length vs) q (sets d q vs) ≡ vs
from_stored q [] d h = refl
from_stored q (v ∷ vs) d h =
    ap₂ {C = List ℕ} (λ (a : ℕ) (l : List ℕ). a ∷ l)
    (get_d_sets_below (set d q v) (suc q) q vs (omega arith) ∙ get_or-set_same d q v 0 (omega arith))
    (from_stored (suc q) vs (set d q v) (omega (arith, length-set d q v)))

-- the target gets the row's value, and every other number is kept
pub numbers_stored : (w : ℕ) (d vs : List ℕ) (b : ℕ) → length d ≡ 8 → length vs ≡ w → b < 8 / w
    → numbers_of w (sets d (b * w) vs) ≡ set (numbers_of w d) b (value vs)
numbers_stored w d vs b eight size h =
    ext_get_or 0 (numbers_of w (sets d (b * w) vs)) (set (numbers_of w d) b (value vs))
    (length_numbers_from w _ (8 / w) 0 ∙ sym (length-set (numbers_of w d) b (value vs) ∙ length_numbers_from w d (8 / w) 0))
    (λ i t. at i (subst (λ (n : ℕ). i < n) (length_numbers_from w (sets d (b * w) vs) (8 / w) 0) t))
  where
    at : (i : ℕ) → i < 8 / w → get_or (numbers_of w (sets d (b * w) vs)) i 0 ≡ get_or (set (numbers_of w d) b (value vs)) i 0
    at i t = get_d_numbers w (sets d (b * w) vs) i t ∙ go (ℕ_discrete i b) (dec_lt i b)
      where
        go : Dec (i ≡ b) → Dec (i < b) → number_at w (sets d (b * w) vs) i ≡ get_or (set (numbers_of w d) b (value vs)) i 0
        go (yes e) l =
            ap (number_at w (sets d (b * w) vs)) e
            ∙ ap value (ap (λ (n : ℕ). registers_from n (b * w) (sets d (b * w) vs)) (sym size)
            ∙ from_stored (b * w) vs d (omega (arith, number_fits w b h)))
            ∙ sym (get_or-set_same (numbers_of w d) b (value vs) 0 (omega (arith, length_numbers_from w d (8 / w) 0)))
            ∙ ap (λ (n : ℕ). get_or (set (numbers_of w d) b (value vs)) n 0) (sym e)
        go (no e) (yes l) =
            ap value (from_apart w (i * w) (b * w) vs d (λ k a c u v. omega (arith, beside w i b l)))
            ∙ sym (get_or-set_other (numbers_of w d) b i (value vs) 0 e ∙ get_d_numbers w d i t)
        go (no e) (no l) =
            ap value (from_apart w (i * w) (b * w) vs d (λ k a c u v. omega (arith, beside w b i (omega arith))))
            ∙ sym (get_or-set_other (numbers_of w d) b i (value vs) 0 e ∙ get_d_numbers w d i t)

-- ---- the registers stay eight words

set_below : (d : List ℕ) (i v : ℕ) → ((k : ℕ) → get_or d k 0 < radix) → v < radix → (k : ℕ) → get_or (set d i v) k 0 < radix
set_below [] i v h l k = h k
set_below (x ∷ xs) zero v h l zero = l
set_below (x ∷ xs) zero v h l (suc k) = h (suc k)
set_below (x ∷ xs) (suc i) v h l zero = h zero
set_below (x ∷ xs) (suc i) v h l (suc k) = set_below xs i v (λ j. h (suc j)) l k

pub longs_kept : (q : ℕ) (d vs : List ℕ) → EightLongs d → AllBelow vs → EightLongs (sets d q vs)
longs_kept q d [] h b = h
longs_kept q d (v ∷ vs) h b =
    longs_kept (suc q) (set d q v) vs
    (record { count = length-set d q v ∙ h.count; each = set_below d q v h.each b.0 }) b.1

-- ---- the numbers say it all

-- the words of the number that words make
longs_back : (ds : List ℕ) → AllBelow ds → longs_of (length ds) (value ds) ≡ ds
longs_back [] h = refl
longs_back (d ∷ ds) h =
    let rest : (d + radix * value ds) / radix ≡ value ds = omega (arith, h.0) in
    ap₂ {C = List ℕ} (λ (a : ℕ) (l : List ℕ). a ∷ l) (omega (arith, h.0)) (ap (longs_of (length ds)) rest ∙ longs_back ds h.1)

from_append : (n m p : ℕ) (d : List ℕ) → registers_from (n + m) p d ≡ registers_from n p d ++ registers_from m (p + n) d
from_append zero m p d = ap₂ {C = List ℕ} (λ (n q : ℕ). registers_from n q d) (zero-add m) (sym (add-zero p))
from_append (suc n) m p d =
    ap (λ (k : ℕ). registers_from k p d) (suc-add n m)
    ∙ ap (λ (l : List ℕ). get_or d p 0 ∷ l) (from_append n m (suc p) d ∙ ap (λ (q : ℕ). registers_from n (suc p) d ++ registers_from m q d) (omega arith))

numbers_back : (w : ℕ) (d : List ℕ) (n k : ℕ) → EightLongs d → registers_of w (numbers_from w d n k) ≡ registers_from (n * w) (k * w) d
unfolding registers_of
numbers_back w d zero k h = ap (λ (m : ℕ). registers_from m (k * w) d) (sym (zero-mul w))
numbers_back w d (suc n) k h =
    let next : suc k * w ≡ k * w + w = omega arith in
    let size : w + n * w ≡ suc n * w = omega arith in
    let row : longs_of w (number_at w d k) ≡ registers_from w (k * w) d =
    rw (length_from w (k * w) d) at (longs_back (registers_from w (k * w) d) (from_below_lem w (k * w) d h)) in
    ap₂ {C = List ℕ} (λ (a b : List ℕ). a ++ b) row (numbers_back w d n (suc k) h ∙ ap (λ (q : ℕ). registers_from (n * w) q d) next)
    ∙ (sym (from_append w (n * w) (k * w) d) ∙ ap (λ (m : ℕ). registers_from m (k * w) d) size)

get_d_from : (n p j : ℕ) (d : List ℕ) → j < n → get_or (registers_from n p d) j 0 ≡ get_or d (p + j) 0
get_d_from zero p j d h = absurd (omega arith)
get_d_from (suc n) p zero d h = ap (λ (k : ℕ). get_or d k 0) (sym (add-zero p))
get_d_from (suc n) p (suc j) d h = get_d_from n (suc p) j d (omega arith) ∙ ap (λ (k : ℕ). get_or d k 0) (omega arith)

-- at a width that fills the eight registers, the registers that hold the numbers of d are d: no register is left open
pub registers_back : (w : ℕ) (d : List ℕ) → 8 / w * w ≡ 8 → EightLongs d → registers_of w (numbers_of w d) ≡ d
registers_back w d full h =
    numbers_back w d (8 / w) 0 h
    ∙ (ap₂ {C = List ℕ} (λ (n p : ℕ). registers_from n p d) full (zero-mul w)
    ∙ ext_get_or 0 (registers_from 8 0 d) d (sym h.count) (λ i t. get_d_from 8 0 i d t ∙ ap (λ (j : ℕ). get_or d j 0) (zero-add i)))
