-- The single position, and k of them, once over the number n of bits and the count k:
--     left_exact, right_exact      a position drops nothing: what comes in and the operand are the operand after it and what goes out
--     left_above, right_below      it is a move of all n + 1 places, the operand and the bit held above it or below it
--     lsl_turns, lsr_turns         k positions with zeros coming in
--     asr_positive, asr_complement, asr_turns   k positions with copies of the top bit coming in
--     asl_turns                    ASL moves as LSL does
-- Assumes nothing.
use mathlib.Core.Path.{◌≡◌, refl, sym, ap, ap₂, ◌∙◌}
use mathlib.Core.Bool.{Bool, true, false}
use mathlib.Core.Logic.{◌⊎◌, inl, inr}
use Prim.Native.Nat.{ℕ, zero, suc, ◌+◌, ◌-◌, ◌*◌, ◌/◌, ◌%◌, ◌^◌, ◌≤◌, ◌<◌}
use native.Mathlib.Nat.{pow-suc, mod-eq_of_lt, mod-lt, mod-add-mod, add-zero, mul-one, one-mul, mul_assoc, div-div-eq-div-mul, div-one, add-mul-mod_self_right, add-mul-div_right, div-eq_of_lt, div-eq_of_lt-le, div-add-mod', div-lt_iff_lt-mul}
use native.Mathlib.Decide.{dec_lt}
use native.Mathlib.Omega.{arith}
use lib.Dec.{eqb}
use lib.Pow.{pow_pos, pow-lt, pow-add, shr_le, field, mod-mod-pow}
use Rattle.alu.specs.declared.shift_rotate.Held.{Held}
use Rattle.alu.specs.declared.shift_rotate.ShiftOp.TheVariants.{Asl, Asr, Lsl, Lsr}
use Rattle.alu.specs.Bits.{low, bit, lowest, top, digit}
use Rattle.alu.specs.Shifts.{left, right, turn, turns}
use Rattle.alu.specs.Places.{above, below, from_above, from_below}
use Rattle.alu.proofs.Bounds.{digit_le, below_2}
use Rattle.alu.proofs.Signed.{pow_half}

-- ---- bits and digits

digit_below_2 : (r : ℕ) → r < 2 → digit (eqb r 1) ≡ r
digit_below_2 = below_2 (λ r. digit (eqb r 1) ≡ r) refl refl

pub digit_lowest : (x : ℕ) → digit (lowest x) ≡ x % 2
digit_lowest x = digit_below_2 (x % 2) (omega arith)

pub is_digit : (b : Bool) → eqb (digit b) 1 ≡ b
is_digit true = refl
is_digit false = refl

pub digit_times : (b : Bool) (m : ℕ) → digit b * m ≤ m
digit_times true m = omega arith
digit_times false m = omega arith

-- the low n bits are the number's own
pub bit_low : (i n v : ℕ) → i < n → bit i (low n v) ≡ bit i v
bit_low i n v i<n =
    let e : n ≡ n - i - 1 + 1 + i = omega arith in
    ap (λ (x : ℕ). eqb (x % 2) 1) (ap (λ (m : ℕ). v % 2 ^ m / 2 ^ i) e ∙ field v (n - i - 1 + 1) i) ∙
    ap (λ (x : ℕ). eqb x 1) (mod-mod-pow (v / 2 ^ i) (n - i - 1) 1)

pub top_low : (n v : ℕ) → 0 < n → top n (low n v) ≡ top n v
unfolding top
top_low n v positive = bit_low (n - 1) n v (omega arith)

pub low_low : (n m v : ℕ) → n ≤ m → low n (low m v) ≡ low n v
low_low n m v n≤m = let e : m ≡ m - n + n = omega arith in ap (λ (x : ℕ). v % 2 ^ x % 2 ^ n) e ∙ mod-mod-pow v (m - n) n

-- bit n of 2v + d
bit_double : (n v d : ℕ) → 0 < n → d < 2 → bit n (2 * v + d) ≡ top n v
unfolding top
bit_double n v d positive d<2 =
    ap (λ (x : ℕ). eqb (x % 2) 1)
    (ap (λ (x : ℕ). (2 * v + d) / x) (pow_half n positive) ∙ sym (div-div-eq-div-mul (2 * v + d) 2 (2 ^ (n - 1))) ∙
    ap (λ (x : ℕ). x / 2 ^ (n - 1)) (omega arith))

-- ---- n + 1 places: the operand, and the bit held above it or below it

pub above_lt : (n : ℕ) (h : Held) → h.value < 2 ^ n → above n h < 2 ^ (n + 1)
above_lt n h l = omega (arith, pow-add 2 n 1, digit_times h.out (2 ^ n))

pub below_lt : (n : ℕ) (h : Held) → h.value < 2 ^ n → below h < 2 ^ (n + 1)
below_lt n h l = omega (arith, pow-add 2 n 1, digit_le h.out)

pub of_above : (n : ℕ) (h : Held) → h.value < 2 ^ n → from_above n (above n h) ≡ h
of_above n h l =
    let q : above n h / 2 ^ n % 2 ≡ digit h.out =
    omega (arith, add-mul-div_right h.value (digit h.out) (pow_pos n), div-eq_of_lt l, digit_le h.out) in
    λ i.
    record {
      value = (add-mul-mod_self_right h.value (digit h.out) (2 ^ n) ∙ mod-eq_of_lt l) i;
      out = (ap (λ (x : ℕ). eqb x 1) q ∙ is_digit h.out) i;
    }

pub of_below : (h : Held) → from_below (below h) ≡ h
of_below h =
    let l = digit_le h.out in
    let p : below h / 2 ≡ h.value = omega arith in
    let q : below h % 2 ≡ digit h.out = omega arith in
    λ i. record { value = p i; out = (ap (λ (x : ℕ). eqb x 1) q ∙ is_digit h.out) i }

pub left_above : (n : ℕ) (b : Bool) (v : ℕ) → 0 < n → left n b v ≡ from_above n (2 * v + digit b)
left_above n b v positive =
    λ i. record { value = low n (2 * v + digit b); out = sym (bit_double n v (digit b) positive (omega (arith, digit_le b))) i }

pub right_below : (n : ℕ) (b : Bool) (v : ℕ) → 0 < n → right n b v ≡ from_below (v + digit b * 2 ^ n)
right_below n b v positive =
    let e : digit b * 2 ^ n ≡ digit b * 2 ^ (n - 1) * 2 = omega (arith, ap (λ (x : ℕ). digit b * x) (pow_half n positive)) in
    let p : v / 2 + digit b * 2 ^ (n - 1) ≡ (v + digit b * 2 ^ n) / 2 = omega arith in
    let q : v % 2 ≡ (v + digit b * 2 ^ n) % 2 = omega arith in
    λ i. record { value = p i; out = eqb (q i) 1 }

-- the places that from_above and from_below take apart
above_of : (n s : ℕ) → s < 2 ^ (n + 1) → above n (from_above n s) ≡ s
above_of n s l =
    let small : s / 2 ^ n < 2 = (div-lt_iff_lt-mul (pow_pos n)).1 (omega (arith, pow-add 2 n 1)) in
    let out : digit (bit n s) ≡ s / 2 ^ n = digit_below_2 (s / 2 ^ n % 2) (omega arith) ∙ mod-eq_of_lt small in
    omega (arith, ap (λ (d : ℕ). d * 2 ^ n) out, div-add-mod' s (2 ^ n))

pub left_exact : (n : ℕ) (b : Bool) (v : ℕ) → 0 < n → v < 2 ^ n → 2 * v + digit b ≡ above n (left n b v)
left_exact n b v positive l =
    sym (ap (above n) (left_above n b v positive) ∙ above_of n (2 * v + digit b) (omega (arith, pow-add 2 n 1, digit_le b)))

pub right_exact : (n : ℕ) (b : Bool) (v : ℕ) → 0 < n → v + digit b * 2 ^ n ≡ below (right n b v)
right_exact n b v positive =
    let s = v + digit b * 2 ^ n in
    sym (ap below (right_below n b v positive) ∙ omega (arith, digit_lowest s))

-- ---- LSL, LSR

pub double_low : (n v d : ℕ) → low n (2 * low n v + d) ≡ low n (2 * v + d)
double_low n v d =
    let m = 2 ^ n in
    ap (λ (x : ℕ). x % m) (omega arith) ∙ mod-add-mod v m (v % m + d) ∙ ap (λ (x : ℕ). x % m) (omega arith) ∙ mod-add-mod v m (v + d) ∙
    ap (λ (x : ℕ). x % m) (omega arith)

pub lsl_turns : (n k : ℕ) (h : Held) → 0 < n → h.value < 2 ^ n → turns Lsl n k h ≡ from_above n (above n h * 2 ^ k)
unfolding turns turn
lsl_turns n zero h positive l = sym (ap (from_above n) (mul-one (above n h)) ∙ of_above n h l)
lsl_turns n (suc k) h positive l =
    let w = above n h * 2 ^ k in
    let e : 2 * w + 0 ≡ above n h * 2 ^ suc k =
    omega (arith, ap (λ (x : ℕ). above n h * x) (pow-suc 2 k), mul_assoc (above n h) (2 ^ k) 2) in
    ap (λ (g : Held). left n false g.value) (lsl_turns n k h positive l) ∙
    (λ i. record { value = double_low n w 0 i; out = (top_low n w positive ∙ sym (bit_double n w 0 positive (omega arith))) i }) ∙
    ap (from_above n) e

pub asl_turns : (n k : ℕ) (h : Held) → turns Asl n k h ≡ turns Lsl n k h
unfolding turns turn
asl_turns n zero h = refl
asl_turns n (suc k) h = ap (λ (g : Held). left n false g.value) (asl_turns n k h)

halve : (s k : ℕ) → s / 2 ^ k / 2 ≡ s / 2 ^ suc k
halve s k = div-div-eq-div-mul s (2 ^ k) 2 ∙ ap (◌/◌ s) (sym (pow-suc 2 k))

pub lsr_turns : (n k : ℕ) (h : Held) → 0 < n → turns Lsr n k h ≡ from_below (below h / 2 ^ k)
unfolding turns turn
lsr_turns n zero h positive = sym (ap from_below (div-one (below h)) ∙ of_below h)
lsr_turns n (suc k) h positive =
    ap (λ (g : Held). right n false g.value) (lsr_turns n k h positive) ∙ right_below n false (below h / 2 ^ k / 2) positive ∙
    ap from_below (omega (arith, halve (below h) k))

-- ---- ASR

pub top_set : (n v : ℕ) → 0 < n → 2 ^ (n - 1) ≤ v → v < 2 ^ n → top n v ≡ true
unfolding top
top_set n v positive l u =
    ap (λ (x : ℕ). eqb (x % 2) 1) (div-eq_of_lt-le {k = 1} (2 ^ (n - 1)) (omega arith) (omega (arith, pow_half n positive)))

pub top_clear : (n v : ℕ) → v < 2 ^ (n - 1) → top n v ≡ false
unfolding top
top_clear n v l = ap (λ (x : ℕ). eqb (x % 2) 1) (div-eq_of_lt l)

asr_turn : (n s : ℕ) (b : Bool) → 0 < n → top n (s / 2) ≡ b → right n (top n (s / 2)) (s / 2) ≡ from_below (s / 2 + digit b * 2 ^ n)
asr_turn n s b positive t = ap (λ (x : Bool). right n x (s / 2)) t ∙ right_below n b (s / 2) positive

-- from 0 on as LSR
pub asr_positive : (n k : ℕ) (h : Held) → 0 < n → h.value < 2 ^ (n - 1) → turns Asr n k h ≡ from_below (below h / 2 ^ k)
unfolding turns turn
asr_positive n zero h positive l = sym (ap from_below (div-one (below h)) ∙ of_below h)
asr_positive n (suc k) h positive l =
    let s = below h / 2 ^ k in
    ap (λ (g : Held). right n (top n g.value) g.value) (asr_positive n k h positive l) ∙
    asr_turn n s false positive (top_clear n (s / 2) (omega (arith, shr_le (below h) k, digit_le h.out))) ∙
    ap from_below (omega (arith, halve (below h) k))

-- all n + 1 places set
abbrev pub ones : ℕ → ℕ
ones n = 2 ^ (n + 1) - 1

-- below 0 it is the complement that takes zeros
pub asr_complement :
    (n k : ℕ) (h : Held) → 0 < n → 2 ^ (n - 1) ≤ h.value → h.value < 2 ^ n →
    turns Asr n k h ≡ from_below (ones n - (ones n - below h) / 2 ^ k)
unfolding turns turn
asr_complement n zero h positive l u = sym (ap from_below (omega (arith, div-one (ones n - below h), below_lt n h u)) ∙ of_below h)
asr_complement n (suc k) h positive l u =
    let r = (ones n - below h) / 2 ^ k in
    let b : r < 2 ^ n = omega (arith, shr_le (ones n - below h) k, pow_half n positive, pow-add 2 n 1) in
    ap (λ (g : Held). right n (top n g.value) g.value) (asr_complement n k h positive l u) ∙
    asr_turn n (ones n - r) true positive
    (top_set n ((ones n - r) / 2) positive (omega (arith, pow_half n positive, pow-add 2 n 1)) (omega (arith, pow-add 2 n 1))) ∙
    ap from_below (omega (arith, halve (ones n - below h) k, pow-add 2 n 1))

-- a number of m bits and its complement fill m ones; so do what is left of them after a shift
shr_complement : (m k s : ℕ) → s < 2 ^ m → (2 ^ m - 1 - s) / 2 ^ k + s / 2 ^ k ≡ (2 ^ m - 1) / 2 ^ k
shr_complement m k s l = go (dec_lt m k)
  where
    go : Dec (m < k) → (2 ^ m - 1 - s) / 2 ^ k + s / 2 ^ k ≡ (2 ^ m - 1) / 2 ^ k
    go (yes m<k) =
        let more : 2 ^ m < 2 ^ k = pow-lt m<k in
        let none : (x : ℕ) → x < 2 ^ m → x / 2 ^ k ≡ 0 = λ x x<. div-eq_of_lt (omega arith) in
        omega (arith, none (2 ^ m - 1 - s) (omega arith), none s l, none (2 ^ m - 1) (omega arith))
    go (no k≤m) =
        let p = 2 ^ k in
        let q = s / p in
        let c = 2 ^ (m - k) in
        let hp : 0 < p = pow_pos k in
        let whole : 2 ^ m ≡ c * p = ap (◌^◌ 2) (omega arith) ∙ pow-add 2 (m - k) k in
        let q<c : q < c = (div-lt_iff_lt-mul hp).1 (omega arith) in
        let d = c - 1 - q in
        let rest : c ≡ d + q + 1 = omega arith in
        let parts : c * p ≡ d * p + q * p + p = omega (arith, ap (λ (x : ℕ). x * p) rest) in
        let split = div-add-mod' s p in
        let small = mod-lt s hp in
        let one : (2 ^ m - 1 - s) / p ≡ d = div-eq_of_lt-le p (omega arith) (omega arith) in
        let all : (2 ^ m - 1) / p ≡ d + q = div-eq_of_lt-le p (omega arith) (omega arith) in
        omega arith

-- so below 0 the operand takes as many ones as there are positions, and stays within its places
asr_negative :
    (n k : ℕ) (h : Held) → 0 < n → 2 ^ (n - 1) ≤ h.value → h.value < 2 ^ n →
    let s = below h / 2 ^ k + (ones n - ones n / 2 ^ k) in (from_below s ≡ turns Asr n k h) × (s < 2 ^ (n + 1))
asr_negative n k h positive l u =
    let both = shr_complement (n + 1) k (below h) (below_lt n h u) in (
      sym (asr_complement n k h positive l u ∙ ap from_below (omega (arith, both, shr_le (ones n) k))),
      omega (arith, both, shr_le (ones n) k, pow_pos (n + 1)),
    )

-- the two by one number that comes in: m is 2 ^ n, the least number of n + 1 places whose top place is set
pub asr_turns :
    (n k : ℕ) (h : Held) → 0 < n → h.value < 2 ^ n → (s m fill : ℕ) → s ≡ below h → m ≡ 2 ^ n →
    ((s < m) × (fill ≡ 0)) ⊎ ((m ≤ s) × (fill ≡ 2 * m - 1 - (2 * m - 1) / 2 ^ k)) →
    (from_below (s / 2 ^ k + fill) ≡ turns Asr n k h) × (s / 2 ^ k + fill < 2 ^ (n + 1))
asr_turns n k h positive l s m fill s-is m-is (inl clear) =
    let is : s / 2 ^ k + fill ≡ below h / 2 ^ k = ap₂ (λ (x y : ℕ). x / 2 ^ k + y) s-is clear.1 ∙ add-zero (below h / 2 ^ k) in
    let under : h.value < 2 ^ (n - 1) = omega (arith, clear.0, pow_half n positive) in (
      ap from_below is ∙ sym (asr_positive n k h positive under),
      omega (arith, is, shr_le (below h) k, below_lt n h l),
    )
asr_turns n k h positive l s m fill s-is m-is (inr set) =
    let all : 2 * m - 1 ≡ ones n = omega (arith, pow-add 2 n 1) in
    let is : s / 2 ^ k + fill ≡ below h / 2 ^ k + (ones n - ones n / 2 ^ k) =
    ap₂ (λ (x y : ℕ). x / 2 ^ k + y) s-is (set.1 ∙ ap (λ (o : ℕ). o - o / 2 ^ k) all) in
    let high : 2 ^ (n - 1) ≤ h.value = omega (arith, set.0, pow_half n positive, digit_le h.out) in
    let law = asr_negative n k h positive high l in
    (ap from_below is ∙ law.0, omega (arith, is, law.1))

-- ---- a word holds enough

pub power_in : (m n : ℕ) → n < m → 1 * 2 ^ n % 2 ^ m ≡ 2 ^ n
power_in m n l = ap (λ (x : ℕ). x % 2 ^ m) (one-mul (2 ^ n)) ∙ mod-eq_of_lt (pow-lt l)

pub from_above_64 : (n s : ℕ) → n < 64 → from_above n (s % 2 ^ 64) ≡ from_above n s
from_above_64 n s l = λ i. record { value = low_low n 64 s (omega arith) i; out = bit_low n 64 s l i }
