-- ASL's V, walked position by position:
--     walk_start, walk_step, walk_end   V of all positions is what the walk has found, or what is still to come
--     changed_most                      after as many positions as there are bits the top bit changes no more
-- Assumes nothing.
use mathlib.Core.Path.{◌≡◌, refl, sym, ap, ap₂, ◌∙◌}
use mathlib.Core.Bool.{Bool, true, false, xor, ◌||◌}
use borrow.Author.Tests.{leb-true, leb-false}
use Prim.Native.Nat.{ℕ, zero, suc, ◌+◌, ◌-◌, ◌*◌, ◌%◌, ◌^◌, ◌≤◌, ◌<◌, min}
use native.Mathlib.Nat.{pow-suc, zero-add, suc-add, zero-div, mul-one, zero-mod, mul-mod_left}
use native.Mathlib.Omega.{arith}
use lib.Dec.{eqb, leb}
use lib.Bits.{bit_or, bit_xor}
use Rattle.std.proofs.Math.Nat.{min-eq_left, min-eq_right}
use Rattle.alu.specs.Bits.{low, top}
use Rattle.alu.specs.Shifts.{left, changed}
use Rattle.alu.proofs.Bitwise.{top_or, top_xor}
use Rattle.alu.proofs.Turns.{double_low, low_low, top_low}

or_assoc : (a b c : Bool) → (a || b) || c ≡ a || (b || c)
or_assoc true b c = refl
or_assoc false b c = refl

or_false : (a : Bool) → a || false ≡ a
or_false true = refl
or_false false = refl

-- the operand doubled in a word of 32 bits, where n of them count
doubled : (n v : ℕ) → n ≤ 32 → low n (v * 2 ^ 1 % 2 ^ 32) ≡ (left n false (low n v)).value
doubled n v n≤32 =
    low_low n 32 (v * 2 ^ 1) n≤32 ∙ ap (low n) (omega arith) ∙ sym (double_low n v 0)

-- `seen` has its top bit set if the operand's changed so far; the operand is v
pub walk_step :
    (n k v seen : ℕ) → 0 < n → n ≤ 32 →
    let v' = v * 2 ^ 1 % 2 ^ 32 in
    top n seen || changed n (suc k) (low n v) ≡ top n (bit_or seen (bit_xor v v')) || changed n k (low n v')
unfolding changed
walk_step n k v seen positive n≤32 =
    let v' = v * 2 ^ 1 % 2 ^ 32 in
    let w = (left n false (low n v)).value in
    let is : low n v' ≡ w = doubled n v n≤32 in
    let now : top n v ≡ top n (low n v) = sym (top_low n v positive) in
    let then : top n v' ≡ top n w = sym (top_low n v' positive) ∙ ap (top n) is in
    sym (ap₂ ◌||◌ (top_or n seen (bit_xor v v') ∙ ap (◌||◌ (top n seen)) (top_xor n v v' ∙ ap₂ xor now then)) (ap (changed n k) is) ∙
    or_assoc (top n seen) (xor (top n (low n v)) (top n w)) (changed n k w))

xor_self : (a : Bool) → xor a a ≡ false
unfolding xor
xor_self true = refl
xor_self false = refl

changed_zero : (n k : ℕ) → changed n k 0 ≡ false
unfolding changed
changed_zero n zero = refl
changed_zero n (suc k) =
    let still : (left n false 0).value ≡ 0 = zero-mod (2 ^ n) in rw (still, xor_self (top n 0)) (changed_zero n k)

-- once the operand is 0 nothing changes
settled : (n i j v : ℕ) → low n (v * 2 ^ i) ≡ 0 → changed n (i + j) (low n v) ≡ changed n i (low n v)
unfolding changed
settled n zero j v none =
    let is : low n v ≡ 0 = ap (low n) (sym (mul-one v)) ∙ none in rw (zero-add j, is) (changed_zero n j)
settled n (suc i) j v none =
    let w = (left n false (low n v)).value in
    let w-is : w ≡ low n (2 * v + 0) = double_low n v 0 in
    let later : low n ((2 * v + 0) * 2 ^ i) ≡ 0 = ap (low n) (omega (arith, ap (◌*◌ v) (pow-suc 2 i))) ∙ none in
    rw (suc-add i j, w-is) (ap (◌||◌ (xor (top n (low n v)) (top n (low n (2 * v + 0))))) (settled n i j (2 * v + 0) later))

pub changed_most : (n k v : ℕ) → n ≤ k → changed n k (low n v) ≡ changed n n (low n v)
changed_most n k v n≤k =
    let e : k ≡ n + (k - n) = omega arith in
    ap (λ (m : ℕ). changed n m (low n v)) e ∙ settled n n (k - n) v (mul-mod_left v (2 ^ n))

-- ---- the walk's first and last state

top_zero : (n : ℕ) → top n 0 ≡ false
unfolding top
top_zero n = ap (λ (x : ℕ). eqb (x % 2) 1) (zero-div (2 ^ (n - 1)))

-- the walk takes k positions, or n where k is more
pub walk_start : (n k v : ℕ) → changed n k (low n v) ≡ top n 0 || changed n (min k n) (low n v)
walk_start n k v = rw (top_zero n) (by_least (leb k n) refl) where
  by_least : (least : Bool) → leb k n ≡ least → changed n k (low n v) ≡ changed n (min k n) (low n v)
  by_least true e = rw (min-eq_left {n = k} {m = n} (leb-true k n e))
  by_least false e = let more : n ≤ k = omega (arith, leb-false k n e) in rw (min-eq_right {n = n} {m = k} more) (changed_most n k v more)

pub walk_end : (n k v seen : ℕ) → k ≡ 0 → top n seen || changed n k (low n v) ≡ top n seen
unfolding changed
walk_end n k v seen none = rw none (or_false (top n seen))
