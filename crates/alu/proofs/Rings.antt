-- A ring of q + 1 places that goes round: one law for the four rotates, over the places and the count.
--     rol_turns, ror_turns      the n bits go round by k mod n, and the last bit out is the one that came in last
--     roxl_turns, roxr_turns    the n bits and X go round by k mod (n + 1)
--     rotated_answer            the answer that the code makes of a ring is that of ROL, ROR
-- Assumes nothing.
use mathlib.Core.Path.{◌≡◌, refl, sym, ap, ap₂, subst, subst⁻¹, ◌∙◌}
use mathlib.Core.Bool.{Bool, false, not, ◌&&◌}
use mathlib.Core.Logic.{◌⊎◌, inl, inr, ⊎_elim}
use Prim.Native.Nat.{ℕ, zero, suc, ◌+◌, ◌-◌, ◌*◌, ◌/◌, ◌%◌, ◌^◌, ◌≤◌, ◌<◌}
use native.Mathlib.Nat.{sub-zero, sub_self, zero-mod, mul_comm, mod-lt, mod-eq_of_lt, suc-mod, mod_self, mul-one, add-mul-mod_self_right, div-one, div-eq_of_lt, mul-mod_left, mul-div_cancel, div-div-eq-div-mul, div-lt_iff_lt-mul}
use native.Mathlib.Decide.{dec_lt}
use native.Mathlib.Omega.{arith}
use lib.Dec.{eqb}
use lib.Pow.{pow_pos, pow_mono, pow-add}
use lib.Arith.{mod-mul, digits_lt}
use Rattle.alu.specs.declared.types.Size.{Size}
use Rattle.alu.specs.declared.shift_rotate.Held.{Held}
use Rattle.alu.specs.declared.shift_rotate.ShiftOp.TheVariants.{Rol, Ror, Roxl, Roxr}
use Rattle.alu.specs.Bits.{bit, lowest, top, digit}
use Rattle.alu.specs.Shifts.{left, right, turn, turns, shift_answer, rotated}
use Rattle.alu.specs.Places.{above, below, from_above, from_below, turned_left}
use Rattle.alu.proofs.Turns.{digit_lowest, digit_times, above_lt, below_lt, of_above, of_below, left_above, right_below, low_low, power_in}

scale_mod : (s m : ℕ) {p : ℕ} → 0 < m → 0 < p → s * p % (m * p) ≡ s % m * p
scale_mod s m {p} hm hp =
    mod-mul (s * p) hm hp
    ∙ omega (arith, ap (λ (x : ℕ). x % m * p) (mul-div_cancel s hp), mul-mod_left s p)

-- What a turn does to a ring: the bit at one end goes to the other. Turned by i it is a bit above the rest, turned by i + 1 the bit below the rest.
pub record Turned (q i s : ℕ) : Type 0 where
  pub parts : Held
  pub within : parts.value < 2 ^ q
  pub now : turned_left (q + 1) i s ≡ above q parts
  pub next : turned_left (q + 1) (i + 1) s ≡ below parts

pub turned : (q i s : ℕ) → i ≤ q → s < 2 ^ (q + 1) → Turned q i s
turned q i s h l =
    let p = 2 ^ i in
    let c = 2 ^ (q - i) in
    let hp = pow_pos i in
    let hc = pow_pos (q - i) in
    let r = s / c % 2 in
    let e : c * p ≡ 2 ^ q = sym (pow-add 2 (q - i) i) ∙ ap (◌^◌ 2) (omega arith) in
    let e₁ : 2 ^ (q + 1) ≡ c * 2 * p = omega (arith, e, pow-add 2 q 1) in
    let e₂ : 2 ^ (q + 1) ≡ c * (p * 2) = omega (arith, e, pow-add 2 q 1) in
    let lower : s * p % 2 ^ (q + 1) ≡ r * (c * p) + s % c * p =
    ap (◌%◌ (s * p)) e₁ ∙ scale_mod s (c * 2) (omega arith) hp ∙ ap (λ (m : ℕ). s % m * p) (mul_comm c 2)
    ∙ ap (λ (m : ℕ). m * p) (mod-mul s (omega arith) hc) ∙ omega arith in
    let upper : s / 2 ^ (q + 1 - i) ≡ s / c / 2 =
    ap (λ (m : ℕ). s / 2 ^ m) (omega arith) ∙ ap (◌/◌ s) (pow-add 2 (q - i) 1) ∙ sym (div-div-eq-div-mul s c 2) in
    let lower₂ : s * 2 ^ (i + 1) % 2 ^ (q + 1) ≡ s % c * (p * 2) =
    ap₂ (λ (a b : ℕ). s * a % b) (pow-add 2 i 1) e₂ ∙ scale_mod s c hc (omega arith) in
    let upper₂ : s / 2 ^ (q + 1 - (i + 1)) ≡ s / c = ap (λ (m : ℕ). s / 2 ^ m) (omega arith) in
    let end : digit (lowest (s / c)) * 2 ^ q ≡ r * (c * p) = ap₂ ◌*◌ (digit_lowest (s / c)) (sym e) in
    let small : s / c / 2 < p = subst (λ (m : ℕ). m < p) (sym (div-div-eq-div-mul s c 2)) ((div-lt_iff_lt-mul (omega arith)).1 (omega (arith, e₁))) in
    record {
      parts = record { value = s % c * p + s / c / 2; out = lowest (s / c) };
      within = subst (λ (m : ℕ). s % c * p + s / c / 2 < m) e (digits_lt (mod-lt s hc) small);
      now = omega (arith, lower, upper, end);
      next = omega (arith, lower₂, upper₂, digit_lowest (s / c));
    }

-- turned by nothing, and by all of its places
pub whole : (p s : ℕ) → s < 2 ^ p → turned_left p 0 s ≡ s
whole p s l = omega (arith, mod-eq_of_lt l, ap (λ (x : ℕ). x % 2 ^ p) (mul-one s), ap (λ (m : ℕ). s / 2 ^ m) (sub-zero p), div-eq_of_lt l)

pub around : (p s : ℕ) → turned_left p p s ≡ s
around p s = omega (arith, mul-mod_left s (2 ^ p), ap (λ (m : ℕ). s / 2 ^ m) (sub_self p), div-one s)

pub turned_lt : (q j s : ℕ) → j ≤ q + 1 → s < 2 ^ (q + 1) → turned_left (q + 1) j s < 2 ^ (q + 1)
turned_lt q j s h l = go (dec_lt q j)
  where
    go : Dec (q < j) → turned_left (q + 1) j s < 2 ^ (q + 1)
    go (yes m) = let e : j ≡ q + 1 = omega arith in rw e (rw around l)
    go (no m) =
        let t = turned q j s (omega arith) l in
        omega (arith, pow-add 2 q 1, digit_times t.parts.out (2 ^ q))

place_lt : (q k : ℕ) → k % (q + 1) < q + 1
place_lt q k = mod-lt k (omega arith)

-- the place after k mod (q + 1): one on, or back at the first
next_place : (q k : ℕ) → (suc k % (q + 1) ≡ k % (q + 1) + 1) ⊎ ((suc k % (q + 1) ≡ 0) × (k % (q + 1) ≡ q))
next_place q k = go (dec_lt (k % (q + 1)) q) (place_lt q k)
  where
    go : Dec (k % (q + 1) < q) → k % (q + 1) < q + 1 → (suc k % (q + 1) ≡ k % (q + 1) + 1) ⊎ ((suc k % (q + 1) ≡ 0) × (k % (q + 1) ≡ q))
    go (yes m) b = inl (suc-mod k (q + 1) ∙ mod-eq_of_lt (omega arith) ∙ omega arith)
    go (no m) b = let e : suc (k % (q + 1)) ≡ q + 1 = omega arith in inr (suc-mod k (q + 1) ∙ rw e (mod_self (q + 1)), omega arith)

module _ (q k s : ℕ) (l : s < 2 ^ (q + 1)) where
  at : ℕ → ℕ
  at j = turned_left (q + 1) j s

  turn_on : turned_left (q + 1) (suc k % (q + 1)) s ≡ turned_left (q + 1) (k % (q + 1) + 1) s
  unfolding at
  turn_on = ⊎_elim (λ e. ap at e) (λ e. ap at e.0 ∙ whole (q + 1) s l ∙ sym (around (q + 1) s) ∙ ap at (omega arith)) (next_place q k)

  turn_back : turned_left (q + 1) (q + 1 - suc k % (q + 1)) s ≡ turned_left (q + 1) (q - k % (q + 1)) s
  unfolding at
  turn_back =
      ⊎_elim (λ e. ap at (omega arith))
      (λ e. ap at {y = q + 1} (omega arith) ∙ around (q + 1) s ∙ sym (whole (q + 1) s l) ∙ ap at {x = 0} (omega arith)) (next_place q k)

-- What holds of the ring before the first turn, and goes from a ring to the ring after one turn, holds after k turns.
module _ (q s : ℕ) (l : s < 2 ^ (q + 1)) (P : ℕ → ℕ → Type 0) (first : P 0 s) where
  pub ring_left : ((k : ℕ) (g : Held) → g.value < 2 ^ q → P k (above q g) → P (suc k) (below g)) → (k : ℕ) → P k (turned_left (q + 1) (k % (q + 1)) s)
  ring_left step zero = rw (zero-mod, whole (q + 1) s l) first
  ring_left step (suc k) =
      let t = turned q (k % (q + 1)) s (omega (arith, place_lt q k)) l in
      rw (turn_on q k s l, t.next) (step k t.parts t.within (rw t.now at (ring_left step k)))

  -- to the right: as far to the left as is left of the whole way
  pub ring_right : ((k : ℕ) (g : Held) → g.value < 2 ^ q → P k (below g) → P (suc k) (above q g)) → (k : ℕ) → P k (turned_left (q + 1) (q + 1 - k % (q + 1)) s)
  ring_right step zero = rw (zero-mod, sub-zero, around (q + 1) s) first
  ring_right step (suc k) =
      let b = place_lt q k in
      let t = turned q (q - k % (q + 1)) s (omega arith) l in
      let e : q + 1 - k % (q + 1) ≡ q - k % (q + 1) + 1 = omega arith in
      rw (turn_back q k s l, t.now) (step k t.parts t.within (rw (e, t.next) at (ring_right step k)))

-- ---- the four rotates

-- what is shown of a rotate without X: its value is v, and the last bit out, if any went out, is b
pub record Rotated (k : ℕ) (h : Held) (v : ℕ) (b : Bool) : Type 0 where
  pub value : h.value ≡ v
  pub out : 0 < k → h.out ≡ b

module _ (q : ℕ) (h : Held) (l : h.value < 2 ^ (q + 1)) where
  top_above : (g : Held) → g.value < 2 ^ q → top (q + 1) (above q g) ≡ g.out
  unfolding top
  top_above g b = ap (λ (m : ℕ). bit m (above q g)) (omega arith) ∙ ap (λ (x : Held). x.out) (of_above q g b)

  rol : (k : ℕ) → let s = turned_left (q + 1) (k % (q + 1)) h.value in Rotated k (turns Rol (q + 1) k h) s (lowest s)
  unfolding turns turn
  rol =
      ring_left q h.value l (λ k s. Rotated k (turns Rol (q + 1) k h) s (lowest s)) (record { value = refl; out = λ p. absurd (omega arith) })
      λ k g b e.
      let t : top (q + 1) (turns Rol (q + 1) k h).value ≡ g.out = ap (top (q + 1)) e.value ∙ top_above g b in
      record {
        value =
            ap₂ (λ (x : ℕ) (o : Bool). (2 * x + digit o) % 2 ^ (q + 1)) e.value t ∙
            ap (λ (x : ℕ). x % 2 ^ (q + 1)) (omega (arith, ap (◌*◌ (digit g.out)) (pow-add 2 q 1))) ∙
            add-mul-mod_self_right (below g) (digit g.out) (2 ^ (q + 1)) ∙ mod-eq_of_lt (below_lt q g b);
        out = λ p. t ∙ sym (ap (λ (x : Held). x.out) (of_below g));
      }

  ror : (k : ℕ) → let s = turned_left (q + 1) (q + 1 - k % (q + 1)) h.value in Rotated k (turns Ror (q + 1) k h) s (top (q + 1) s)
  unfolding turns turn
  ror =
      ring_right q h.value l (λ k s. Rotated k (turns Ror (q + 1) k h) s (top (q + 1) s)) (record { value = refl; out = λ p. absurd (omega arith) })
      λ k g b e.
      record {
        value =
            ap (λ (x : ℕ). (right (q + 1) (lowest x) x).value) e.value ∙
            ap (λ (x : Held). x.value + digit x.out * 2 ^ (q + 1 - 1)) (of_below g) ∙
            ap (λ (m : ℕ). g.value + digit g.out * 2 ^ m) (omega arith);
        out = λ p. ap lowest e.value ∙ ap (λ (x : Held). x.out) (of_below g) ∙ sym (top_above g b);
      }

module _ (n : ℕ) (h : Held) (positive : 0 < n) (l : h.value < 2 ^ n) (k : ℕ) where
  places : n ≡ n - 1 + 1
  places = omega arith

  pub rol_turns : let s = turned_left n (k % n) h.value in Rotated k (turns Rol n k h) s (lowest s)
  rol_turns =
      subst⁻¹ (λ (m : ℕ). h.value < 2 ^ m → let s = turned_left m (k % m) h.value in Rotated k (turns Rol m k h) s (lowest s)) places
      (λ small. rol (n - 1) h small k) l

  pub ror_turns : let s = turned_left n (n - k % n) h.value in Rotated k (turns Ror n k h) s (top n s)
  ror_turns =
      subst⁻¹ (λ (m : ℕ). h.value < 2 ^ m → let s = turned_left m (m - k % m) h.value in Rotated k (turns Ror m k h) s (top m s)) places
      (λ small. ror (n - 1) h small k) l

-- ROXL and ROXR: the n bits and X
module _ (n : ℕ) (h : Held) (positive : 0 < n) (l : h.value < 2 ^ n) where
  pub roxl_turns : (k : ℕ) → turns Roxl n k h ≡ from_above n (turned_left (n + 1) (k % (n + 1)) (above n h))
  unfolding turns turn
  roxl_turns =
      ring_left n (above n h) (above_lt n h l) (λ k s. turns Roxl n k h ≡ from_above n s) (sym (of_above n h l))
      λ k g b e. ap (λ (x : Held). left n x.out x.value) (e ∙ of_above n g b) ∙ left_above n g.out g.value positive

  pub roxr_turns : (k : ℕ) → turns Roxr n k h ≡ from_below (turned_left (n + 1) (n + 1 - k % (n + 1)) (below h))
  unfolding turns turn
  roxr_turns =
      ring_right n (below h) (below_lt n h l) (λ k s. turns Roxr n k h ≡ from_below s) (sym (of_below h))
      λ k g b e. ap (λ (x : Held). right n x.out x.value) (e ∙ of_below g) ∙ right_below n g.out g.value positive

-- ---- a word of 64 bits holds enough

pub turned_64 :
    (p j s : ℕ) → 0 < p → p ≤ 33 → j ≤ p → s < 2 ^ p →
    (s * 2 ^ j % 2 ^ 64 % (1 * 2 ^ p % 2 ^ 64) + s / 2 ^ (p - j) ≡ turned_left p j s) × (turned_left p j s < 2 ^ p) × (2 ^ p ≤ 2 ^ 33)
turned_64 p j s positive p≤33 j≤p l =
    let e : p ≡ p - 1 + 1 = omega arith in (
      ap (λ (x : ℕ). s * 2 ^ j % 2 ^ 64 % x + s / 2 ^ (p - j)) (power_in 64 p (omega arith)) ∙
          ap (λ (x : ℕ). x + s / 2 ^ (p - j)) (low_low p 64 (s * 2 ^ j) (omega arith)),
      subst⁻¹ (λ (x : ℕ). j ≤ x → s < 2 ^ x → turned_left x j s < 2 ^ x) e (turned_lt (p - 1) j s) j≤p l,
      pow_mono p≤33,
    )

-- ---- the answer of ROL and ROR

pub rotated_answer :
    (size : Size) (k : ℕ) (x : Bool) {h : Held} {v : ℕ} {b : Bool} → Rotated k h v b →
    shift_answer size k v x false (not (eqb k 0) && b) ≡ rotated size k h x
rotated_answer size zero x shown = ap (λ (r : ℕ). shift_answer size 0 r x false false) (sym shown.value)
rotated_answer size (suc k) x shown =
    ap₂ (λ (r : ℕ) (o : Bool). shift_answer size (suc k) r x false (not (eqb (suc k) 0) && o)) (sym shown.value) (sym (shown.out (omega arith)))
