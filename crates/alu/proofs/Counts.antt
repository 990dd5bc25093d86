-- What document 01 says of counts, over any number n of bits and any count k, of an operand below 2 ^ n:
--     lsl_product, lsl_out         LSL: the product mod 2 ^ n, and the last bit out
--     lsl_at, lsl_past             LSL by n: 0, and the lowest bit goes out last; by more: 0, and a zero goes out last
--     lsr_quotient, lsr_out        LSR: the quotient, and the last bit out
--     lsr_at, lsr_past             LSR by n: 0, and the top bit goes out last; by more: 0, and a zero goes out last
--     asr_past                     ASR by n or more: every bit and the last bit out are the sign
--     rol_mod, ror_mod             a rotate by k leaves what one by k mod n leaves
--     rol_round, ror_round         whole rounds leave the value, and the last bit round goes out last
--     roxl_mod, roxr_mod           through X: a rotate by k is one by k mod (n + 1)
--     roxl_round, roxr_round       whole rounds through X leave the value and X
--     by_zero, mod_64              a count of 0; the count is taken mod 64
-- ASL moves as LSL does: `asl_turns` of Turns. Assumes nothing.
use mathlib.Core.Path.{◌≡◌, sym, ap, ◌∙◌}
use mathlib.Core.Bool.{Bool, true, false, true≢false}
use Prim.Native.Nat.{ℕ, ◌+◌, ◌-◌, ◌*◌, ◌/◌, ◌%◌, ◌^◌, ◌≤◌, ◌<◌}
use native.Mathlib.Nat.{add-zero, sub-zero, zero-mul, mod-mod, mul-mod_left, mul-div_cancel, add-mul-mod_self_right, add-mul-div_right, div-eq_of_lt, div-div-eq-div-mul}
use native.Mathlib.Decide.{dec_lt}
use native.Mathlib.Omega.{arith}
use lib.Dec.{eqb}
use lib.Pow.{pow_pos, pow_mono, pow-add}
use Rattle.alu.specs.declared.types.Size.{Size}
use Rattle.alu.specs.declared.types.Flags.{Flags}
use Rattle.alu.specs.declared.types.Answer.{Answer}
use Rattle.alu.specs.declared.shift_rotate.Held.{Held}
use Rattle.alu.specs.declared.shift_rotate.ShiftOp.{ShiftOp}
use Rattle.alu.specs.declared.shift_rotate.ShiftOp.TheVariants.{Asl, Asr, Lsl, Lsr, Rol, Ror, Roxl, Roxr}
use Rattle.alu.specs.Bits.{bits_of, low, bit, lowest, top, digit}
use Rattle.alu.specs.ConditionCodes.{result_flags, logic_flags}
use Rattle.alu.specs.Answers.{accepted, figure}
use Rattle.alu.specs.Shifts.{turns, changed, shift_of}
use Rattle.alu.specs.Places.{above, below, from_above, from_below, turned_left}
use Rattle.alu.proofs.Bounds.{digit_le}
use Rattle.alu.proofs.Signed.{pow_half}
use Rattle.alu.proofs.Turns.{lsl_turns, lsr_turns, ones, asr_positive, asr_complement, of_below, top_set, top_clear}
use Rattle.alu.proofs.Rings.{rol_turns, ror_turns, roxl_turns, roxr_turns, whole, around}

module _ (n : ℕ) (h : Held) (positive : 0 < n) (l : h.value < 2 ^ n) where
  -- ---- LSL

  -- once a position is taken the bit held before has gone
  pub lsl_product : (k : ℕ) → (turns Lsl n k h).value ≡ low n (h.value * 2 ^ k)
  lsl_product k =
      ap (λ (g : Held). g.value) (lsl_turns n k h positive l) ∙ ap (low n) (omega arith) ∙
      add-mul-mod_self_right (h.value * 2 ^ k) (digit h.out * 2 ^ k) (2 ^ n)

  pub lsl_out : (k : ℕ) → 0 < k → (turns Lsl n k h).out ≡ bit n (h.value * 2 ^ k)
  lsl_out k some =
      let p = 2 ^ (k - 1) in
      let e : 2 ^ k ≡ 2 * p = pow_half k some in
      let split : above n h * 2 ^ k ≡ h.value * 2 ^ k + digit h.out * p * 2 * 2 ^ n =
      omega (arith, ap (λ (x : ℕ). digit h.out * 2 ^ n * x) e) in
      ap (λ (g : Held). g.out) (lsl_turns n k h positive l) ∙
      ap (λ (x : ℕ). eqb (x % 2) 1) (ap (λ (x : ℕ). x / 2 ^ n) split ∙ add-mul-div_right (h.value * 2 ^ k) (digit h.out * p * 2) (pow_pos n)) ∙
      ap (λ (x : ℕ). eqb x 1) (add-mul-mod_self_right (h.value * 2 ^ k / 2 ^ n) (digit h.out * p) 2)

  pub lsl_at : turns Lsl n n h ≡ record { value = 0; out = lowest h.value }
  lsl_at = λ i.
      record {
        value = (lsl_product n ∙ mul-mod_left h.value (2 ^ n)) i;
        out = (lsl_out n positive ∙ ap lowest (mul-div_cancel h.value (pow_pos n))) i;
      }

  pub lsl_past : (k : ℕ) → n < k → turns Lsl n k h ≡ record { value = 0; out = false }
  lsl_past k past =
      let p = 2 ^ (k - n - 1) in
      let e : h.value * 2 ^ k ≡ h.value * p * 2 * 2 ^ n =
      ap (◌*◌ h.value) (ap (◌^◌ 2) (omega arith) ∙ pow-add 2 (k - n - 1 + 1) n ∙ ap (λ (x : ℕ). x * 2 ^ n) (pow-add 2 (k - n - 1) 1)) ∙ omega arith in
      let gone : h.value * 2 ^ k % 2 ^ n ≡ 0 = ap (λ (x : ℕ). x % 2 ^ n) e ∙ mul-mod_left (h.value * p * 2) (2 ^ n) in
      let even : h.value * 2 ^ k / 2 ^ n % 2 ≡ 0 =
      ap (λ (x : ℕ). x / 2 ^ n % 2) e ∙ ap (λ (x : ℕ). x % 2) (mul-div_cancel (h.value * p * 2) (pow_pos n)) ∙ mul-mod_left (h.value * p) 2 in
      λ i. record { value = (lsl_product k ∙ gone) i; out = (lsl_out k (omega arith) ∙ ap (λ (x : ℕ). eqb x 1) even) i }

  -- ---- LSR

  half : below h / 2 ≡ h.value
  half = ap (λ (g : Held). g.value) (of_below h)

  pub lsr_quotient : (k : ℕ) → (turns Lsr n k h).value ≡ h.value / 2 ^ k
  lsr_quotient k =
      ap (λ (g : Held). g.value) (lsr_turns n k h positive) ∙ div-div-eq-div-mul (below h) (2 ^ k) 2 ∙ ap (◌/◌ (below h)) (omega arith) ∙
      sym (div-div-eq-div-mul (below h) 2 (2 ^ k)) ∙ ap (λ (x : ℕ). x / 2 ^ k) half

  pub lsr_out : (k : ℕ) → 0 < k → (turns Lsr n k h).out ≡ bit (k - 1) h.value
  lsr_out k some =
      ap (λ (g : Held). g.out) (lsr_turns n k h positive) ∙
      ap lowest (ap (◌/◌ (below h)) (pow_half k some) ∙ sym (div-div-eq-div-mul (below h) 2 (2 ^ (k - 1))) ∙ ap (λ (x : ℕ). x / 2 ^ (k - 1)) half)

  pub lsr_at : turns Lsr n n h ≡ record { value = 0; out = top n h.value }
  unfolding top
  lsr_at = λ i. record { value = (lsr_quotient n ∙ div-eq_of_lt l) i; out = lsr_out n positive i }

  pub lsr_past : (k : ℕ) → n < k → turns Lsr n k h ≡ record { value = 0; out = false }
  lsr_past k past =
      let none : (j : ℕ) → n ≤ j → h.value / 2 ^ j ≡ 0 = λ j n≤j. div-eq_of_lt (omega (arith, pow_mono {i = n} {j = j} n≤j)) in
      λ i.
      record {
        value = (lsr_quotient k ∙ none k (omega arith)) i;
        out = (lsr_out k (omega arith) ∙ ap lowest (none (k - 1) (omega arith))) i;
      }

  -- ---- ASR

  pub asr_past : (k : ℕ) → n ≤ k → let s = top n h.value in turns Asr n k h ≡ record { value = digit s * (2 ^ n - 1); out = s }
  asr_past k past = go (dec_lt h.value (2 ^ (n - 1)))
    where
      enough : 2 ^ n ≤ 2 ^ k
      enough = pow_mono past

      go : Dec (h.value < 2 ^ (n - 1)) → let s = top n h.value in turns Asr n k h ≡ record { value = digit s * (2 ^ n - 1); out = s }
      go (yes under) =
          let none : below h / 2 ^ k ≡ 0 = div-eq_of_lt (omega (arith, pow_half n positive, digit_le h.out, enough)) in
          rw (top_clear n h.value under, zero-mul (2 ^ n - 1)) (asr_positive n k h positive under ∙ ap from_below none)
      go (no high) =
          let upper : 2 ^ (n - 1) ≤ h.value = omega arith in
          let none : (ones n - below h) / 2 ^ k ≡ 0 = div-eq_of_lt (omega (arith, pow_half n positive, pow-add 2 n 1, enough)) in
          let rest : ones n - (ones n - below h) / 2 ^ k ≡ ones n = omega arith in
          let all : (2 ^ (n + 1) - 1) / 2 ≡ 1 * (2 ^ n - 1) = omega (arith, pow-add 2 n 1, pow_pos n) in
          let odd : (2 ^ (n + 1) - 1) % 2 ≡ 1 = omega (arith, pow-add 2 n 1, pow_pos n) in
          rw (top_set n h.value positive upper l)
          (asr_complement n k h positive upper l ∙ ap from_below rest ∙
          (λ i. record { value = all i; out = eqb (odd i) 1 }))

  -- ---- rotates

  pub rol_mod : (k : ℕ) → (turns Rol n k h).value ≡ (turns Rol n (k % n) h).value
  rol_mod k =
      (rol_turns n h positive l k).value ∙ ap (λ (j : ℕ). turned_left n j h.value) (sym (mod-mod k n)) ∙ sym (rol_turns n h positive l (k % n)).value

  pub ror_mod : (k : ℕ) → (turns Ror n k h).value ≡ (turns Ror n (k % n) h).value
  ror_mod k =
      (ror_turns n h positive l k).value ∙ ap (λ (j : ℕ). turned_left n (n - j) h.value) (sym (mod-mod k n)) ∙
      sym (ror_turns n h positive l (k % n)).value

  pub rol_round : (k : ℕ) → 0 < k → k % n ≡ 0 → turns Rol n k h ≡ record { value = h.value; out = lowest h.value }
  rol_round k some rounds =
      let shown = rol_turns n h positive l k in
      let same : turned_left n (k % n) h.value ≡ h.value = ap (λ (j : ℕ). turned_left n j h.value) rounds ∙ whole n h.value l in
      λ i. record { value = (shown.value ∙ same) i; out = (shown.out some ∙ ap lowest same) i }

  pub ror_round : (k : ℕ) → 0 < k → k % n ≡ 0 → turns Ror n k h ≡ record { value = h.value; out = top n h.value }
  ror_round k some rounds =
      let shown = ror_turns n h positive l k in
      let same : turned_left n (n - k % n) h.value ≡ h.value =
      ap (λ (j : ℕ). turned_left n (n - j) h.value) rounds ∙
      ap (λ (j : ℕ). turned_left n j h.value) (sub-zero n) ∙ around n h.value in
      λ i. record { value = (shown.value ∙ same) i; out = (shown.out some ∙ ap (top n) same) i }

  pub roxl_mod : (k : ℕ) → turns Roxl n k h ≡ turns Roxl n (k % (n + 1)) h
  roxl_mod k =
      roxl_turns n h positive l k ∙ ap (λ (j : ℕ). from_above n (turned_left (n + 1) j (above n h))) (sym (mod-mod k (n + 1))) ∙
      sym (roxl_turns n h positive l (k % (n + 1)))

  pub roxr_mod : (k : ℕ) → turns Roxr n k h ≡ turns Roxr n (k % (n + 1)) h
  roxr_mod k =
      roxr_turns n h positive l k ∙ ap (λ (j : ℕ). from_below (turned_left (n + 1) (n + 1 - j) (below h))) (sym (mod-mod k (n + 1))) ∙
      sym (roxr_turns n h positive l (k % (n + 1)))

  pub roxl_round : (k : ℕ) → k % (n + 1) ≡ 0 → turns Roxl n k h ≡ h
  unfolding turns
  roxl_round k rounds = roxl_mod k ∙ ap (λ (j : ℕ). turns Roxl n j h) rounds

  pub roxr_round : (k : ℕ) → k % (n + 1) ≡ 0 → turns Roxr n k h ≡ h
  unfolding turns
  roxr_round k rounds = roxr_mod k ∙ ap (λ (j : ℕ). turns Roxr n j h) rounds

-- ---- a count of 0, and counts mod 64

-- by 0: the four shifts return the value as it was handed in, the others mask it. C and V are clear and X is kept, but C of ROXL and ROXR is X
abbrev pub zero_of : ShiftOp → Size → (value : ℕ) → Flags → Answer
zero_of Asl size value f = accepted value (logic_flags (bits_of size) value f) (figure size 6 8)
zero_of Asr size value f = accepted value (logic_flags (bits_of size) value f) (figure size 6 8)
zero_of Lsl size value f = accepted value (logic_flags (bits_of size) value f) (figure size 6 8)
zero_of Lsr size value f = accepted value (logic_flags (bits_of size) value f) (figure size 6 8)
zero_of Rol size value f = let r = low (bits_of size) value in accepted r (logic_flags (bits_of size) r f) (figure size 6 8)
zero_of Ror size value f = let r = low (bits_of size) value in accepted r (logic_flags (bits_of size) r f) (figure size 6 8)
zero_of Roxl size value f = let r = low (bits_of size) value in accepted r (result_flags (bits_of size) r f.x false f.x) (figure size 6 8)
zero_of Roxr size value f = let r = low (bits_of size) value in accepted r (result_flags (bits_of size) r f.x false f.x) (figure size 6 8)

pub by_zero : (op : ShiftOp) (size : Size) (value : ℕ) (f : Flags) → shift_of op size 0 value f ≡ zero_of op size value f
unfolding shift_of turns changed logic_flags
by_zero Asl size value f = ap (accepted _ _) (add-zero (figure size 6 8))
by_zero Asr size value f = ap (accepted _ _) (add-zero (figure size 6 8))
by_zero Lsl size value f = ap (accepted _ _) (add-zero (figure size 6 8))
by_zero Lsr size value f = ap (accepted _ _) (add-zero (figure size 6 8))
by_zero Rol size value f = ap (accepted _ _) (add-zero (figure size 6 8))
by_zero Ror size value f = ap (accepted _ _) (add-zero (figure size 6 8))
by_zero Roxl size value f = ap (accepted _ _) (add-zero (figure size 6 8))
by_zero Roxr size value f = ap (accepted _ _) (add-zero (figure size 6 8))

-- ROXL and ROXR
abbrev pub takes_x : ShiftOp → Bool
takes_x Asl = false
takes_x Asr = false
takes_x Lsl = false
takes_x Lsr = false
takes_x Rol = false
takes_x Ror = false
takes_x Roxl = true
takes_x Roxr = true

pub mod_64 :
    (op : ShiftOp) → takes_x op ≡ false → (size : Size) (count value : ℕ) (f : Flags) →
    shift_of op size count value f ≡ shift_of op size (count % 64) value f
unfolding shift_of
mod_64 Asl plain size count value f = rw (mod-mod count 64)
mod_64 Asr plain size count value f = rw (mod-mod count 64)
mod_64 Lsl plain size count value f = rw (mod-mod count 64)
mod_64 Lsr plain size count value f = rw (mod-mod count 64)
mod_64 Rol plain size count value f = rw (mod-mod count 64)
mod_64 Ror plain size count value f = rw (mod-mod count 64)
mod_64 Roxl plain size count value f = absurd (true≢false plain)
mod_64 Roxr plain size count value f = absurd (true≢false plain)
