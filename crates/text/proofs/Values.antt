-- Laws of numbers as text. Assumes nothing.
--     decimal_value, hex_value    a writing means its number
--     decimal_wrote, hex_wrote    read after write: a number's writing is read as the number
--     decimal_was, hex_was        write after read: what is read as a number is its writing
--     decimal_short, hex_length   how long a writing is
--     decimal_text                what `io::decimal` writes is `decimal_of`
use Rattle.std.proofs.Common.{◌≡◌, ℕ, zero, suc, ◌+◌, ◌-◌, ◌*◌, ◌/◌, ◌%◌, ◌^◌, ◌<◌, ◌≤◌, Bool, true, false, cond, ◌&&◌, ltb, List, [], ◌∷◌, ◌++◌, length, get_or, refl, ap, ◌∙◌, suc-le-suc, zero-le, le_of_suc-le-suc, not-suc-le-zero, mod-lt, mod-eq_of_lt, div-lt_iff_lt-mul, pow-suc, div-add-mod', le-div_iff_mul-le, zero-add, sub-one, arith, lit<, length-append, ltb-true, le-ltb, lt-ltb, subst, Option, Some, None}
use native.Mathlib.Nat.{pow-le-pow_right}
use native.Mathlib.Decide.{dec_le}
use Rattle.io.specs.Digits.{last_digits as digits, IsDigitCount}
use Rattle.std.specs.Bool.{then_some}
use Rattle.std.specs.Array.{IsFromFnResultFrom}
use Rattle.std.specs.Fn.{Called}
use denote.Param.Members.{Mut}
use Rattle.std.proofs.Math.Nat.{mod-add-mod, div-div-eq-div-mul, div-one}
use Rattle.std.proofs.lemmas.Nat.{mul-mod_first}
use Rattle.std.proofs.lemmas.List.FromFn.{fill_by_all}
use Rattle.std.specs.List.{fold}
use Rattle.text.specs.Text.{same_bytes, hex_digit, worth_of, value_from, value_of, decimal_in, decimal_of, decimal_read, hex_byte, hex_in, hex_of, hex_read}
use Rattle.text.proofs.Texts.{same_true, same_refl}

-- ---- the value of digits, in any base

-- one digit more
pub value_more : (base v : ℕ) (xs : List ℕ) (x : ℕ) → value_from base v (xs ++ (x ∷ [])) ≡ value_from base v xs * base + worth_of x
unfolding value_from
value_more base v [] x = refl
value_more base v (y ∷ xs) x = value_more base (v * base + worth_of y) xs x

-- the last digit of a number behind the others
value_last : (base : ℕ) (xs : List ℕ) (n x : ℕ) → value_of base xs ≡ n / base → worth_of x ≡ n % base → value_of base (xs ++ (x ∷ [])) ≡ n
value_last base xs n x e w = rw (value_more base 0 xs x, e, w) (div-add-mod' n base)

-- what the digits' bytes count
pub decimal_worth : (d : ℕ) → d < 10 → worth_of (48 + d) ≡ d
unfolding hex_digit
decimal_worth d h = rw (lt-ltb (48 + d) 65 (omega arith), le-ltb (48 + d) 48 (omega arith), le-ltb 57 (48 + d) (omega arith)) (omega arith)

hex_worth : (d : ℕ) → d < 16 → worth_of (hex_byte d) ≡ d
unfolding hex_digit
hex_worth d h = go (dec_le (suc d) 10)
  where
    go : Dec (d < 10) → worth_of (hex_byte d) ≡ d
    go (yes l) = rw (lt-ltb d 10 l) (decimal_worth d l)
    go (no l) = rw (le-ltb d 10 (omega arith), le-ltb (55 + d) 65 (omega arith), le-ltb 70 (55 + d) (omega arith)) (omega arith)

pub worth_small : (b : ℕ) → worth_of b < 16
unfolding hex_digit
worth_small b = go (dec_le 48 b) (dec_le b 57) (dec_le 65 b) (dec_le b 70)
  where
    go : Dec (48 ≤ b) → Dec (b ≤ 57) → Dec (65 ≤ b) → Dec (b ≤ 70) → worth_of b < 16
    go (no p) q s t = rw (lt-ltb b 65 (omega arith), lt-ltb b 48 (omega arith)) (lit< tt)
    go (yes p) (yes q) s t = rw (lt-ltb b 65 (omega arith), le-ltb b 48 p, le-ltb 57 b q) (omega arith)
    go (yes p) (no q) (no s) t = rw (lt-ltb b 65 (omega arith), le-ltb b 48 p, lt-ltb 57 b (omega arith)) (lit< tt)
    go (yes p) (no q) (yes s) (yes t) = rw (le-ltb b 65 s, le-ltb 70 b t) (omega arith)
    go (yes p) (no q) (yes s) (no t) = rw (le-ltb b 65 s, lt-ltb 70 b (omega arith)) (lit< tt)

-- ---- what writings are worth

decimal_means : (f n : ℕ) → n < 10 ^ f → value_of 10 (decimal_in f n) ≡ n
unfolding decimal_in value_from
decimal_means zero n h = omega arith
decimal_means (suc f) n h =
    let less : n / 10 < 10 ^ f = (div-lt_iff_lt-mul (lit< tt)).1 (rw pow-suc at h) in
    go (decimal_means f (n / 10) less) (dec_le (suc n) 10)
  where
    go : value_of 10 (decimal_in f (n / 10)) ≡ n / 10 → Dec (n < 10) → value_of 10 (decimal_in (suc f) n) ≡ n
    go e (yes l) = rw (lt-ltb n 10 l, zero-add) (decimal_worth n l)
    go e (no l) = rw (le-ltb n 10 (omega arith)) (value_last 10 (decimal_in f (n / 10)) n (48 + n % 10) e (decimal_worth (n % 10) (mod-lt n (lit< tt))))

pub decimal_value : (n : ℕ) → n < 10 ^ 20 → value_of 10 (decimal_of n) ≡ n
decimal_value n h = decimal_means 20 n h

hex_means : (k n : ℕ) → n < 16 ^ k → value_of 16 (hex_in k n) ≡ n
unfolding hex_in value_from
hex_means zero n h = omega arith
hex_means (suc k) n h =
    let less : n / 16 < 16 ^ k = (div-lt_iff_lt-mul (lit< tt)).1 (rw pow-suc at h) in
    value_last 16 (hex_in k (n / 16)) n (hex_byte (n % 16)) (hex_means k (n / 16) less) (hex_worth (n % 16) (mod-lt n (lit< tt)))

pub hex_value : (n : ℕ) → n < 2 ^ 32 → value_of 16 (hex_of n) ≡ n
hex_value n h = hex_means 8 n h

-- the digits' value is a fold over them, and so is what a word below a limit holds of it
pub value_fold : (base limit v : ℕ) (xs : List ℕ) → fold (λ a x. (a * base % limit + worth_of x) % limit) (v % limit) xs ≡ value_from base v xs % limit
unfolding value_from
value_fold base limit v [] = refl
value_fold base limit v (x ∷ xs) =
    let turn : (v % limit * base % limit + worth_of x) % limit ≡ (v * base + worth_of x) % limit = rw (mul-mod_first, mod-add-mod) in
    rw turn (value_fold base limit (v * base + worth_of x) xs)

-- eight digits, the k-th from the front by a shift over those behind it
abbrev pub hex_at : (n k : ℕ) → ℕ
hex_at n k = hex_byte (n / 2 ^ (28 - 4 * k) % 16)

-- calls of one closure, at each place in turn
module _ {F : Type 0} (g : Mut F (ℕ × Unit {0}) ℕ) (f : F) (h : ℕ → ℕ) (acts : (i r : ℕ) (q : F) → Called g f (i, tt) r q → (q ≡ f) × (r ≡ h i)) where
  pub each_from : (ys : List ℕ) (i n : ℕ) → IsFromFnResultFrom g f ys i n → (k : ℕ) → i ≤ k → k < i + n → get_or ys k 0 ≡ h k
  each_from ys i zero e k l m = absurd (omega arith)
  each_from ys i (suc n) (q, y, at, call, more) k l m =
      go (λ (p : i + 1 ≤ k). each_from ys (i + 1) n (subst (λ f'. IsFromFnResultFrom g f' ys (i + 1) n) (acts i y q call).0 more) k p (omega arith)) (dec_le (i + 1) k)
    where
      go : (i + 1 ≤ k → get_or ys k 0 ≡ h k) → Dec (i + 1 ≤ k) → get_or ys k 0 ≡ h k
      go later (yes p) = later p
      go later (no p) = let here : i ≡ k = omega arith in rw (← here) (at.1 0 ∙ (acts i y q call).1)

pub hex_by : (n : ℕ) (ds : List ℕ) → length ds ≡ 8 → ((k : ℕ) → k < 8 → get_or ds k 0 ≡ hex_at n k) → ds ≡ hex_of n
unfolding hex_in
hex_by n ds h each = fill_by_all (hex_at n) ds 8 0 h each ∙ (simp (div-div-eq-div-mul, div-one))

-- ---- a field is a number's writing, in any base and below any limit

module _ (base limit : ℕ) (write : ℕ → List ℕ) (means : (n : ℕ) → n < limit → value_of base (write n) ≡ n) where
  -- what a definition says of the field, given its value
  abbrev said : List ℕ → ℕ → Option ℕ
  said field v = cond (ltb v limit && same_bytes field (write v)) (Some v) None

  -- it may be read by any number that is its value where that is below the limit
  pub read_by : (field : List ℕ) (v : ℕ) → v < limit → (value_of base field < limit → v ≡ value_of base field)
      → then_some (same_bytes field (write v)) v ≡ said field (value_of base field)
  read_by field v small agrees = go (same_bytes field (write v)) refl
    where
      other : (t : Bool) → ltb (value_of base field) limit ≡ t → same_bytes field (write v) ≡ false → None ≡ said field (value_of base field)
      other true e d = rw (e, ← agrees (ltb-true _ _ e), d)
      other false e d = rw e

      go : (t : Bool) → same_bytes field (write v) ≡ t → then_some t v ≡ said field (value_of base field)
      go true e =
          let worth : value_of base field ≡ v = ap (value_of base) (same_true field (write v) e) ∙ means v small in
          rw (worth, lt-ltb v limit small, e)
      go false e = other (ltb (value_of base field) limit) refl e

  -- read after write
  pub read_wrote : (n : ℕ) → n < limit → said (write n) (value_of base (write n)) ≡ Some n
  read_wrote n h = rw (means n h, lt-ltb n limit h, same_refl (write n))

  -- write after read
  pub read_was : (field : List ℕ) (n : ℕ) → said field (value_of base field) ≡ Some n → field ≡ write n
  read_was field n = go (ltb (value_of base field) limit) (same_bytes field (write (value_of base field))) refl
    where
      go : (t s : Bool) → same_bytes field (write (value_of base field)) ≡ s → cond (t && s) (Some (value_of base field)) None ≡ Some n → field ≡ write n
      go true true e f = let is : value_of base field ≡ n = cc in same_true _ _ e ∙ ap write is
      go true false e f = cc
      go false s e f = cc

below_ten : (n : ℕ) → n < 2 ^ 64 → value_of 10 (decimal_of n) ≡ n
below_ten n h = decimal_value n (omega arith)

pub decimal_read_lem : (field : List ℕ) (v : ℕ) → v < 2 ^ 64 → (value_of 10 field < 2 ^ 64 → v ≡ value_of 10 field) → then_some (same_bytes field (decimal_of v)) v ≡ decimal_read field
unfolding decimal_read
decimal_read_lem field v small agrees = read_by 10 (2 ^ 64) decimal_of below_ten field v small agrees

pub decimal_wrote : (n : ℕ) → n < 2 ^ 64 → decimal_read (decimal_of n) ≡ Some n
unfolding decimal_read
decimal_wrote n h = read_wrote 10 (2 ^ 64) decimal_of below_ten n h

pub decimal_was : (field : List ℕ) (n : ℕ) → decimal_read field ≡ Some n → field ≡ decimal_of n
unfolding decimal_read
decimal_was field n e = read_was 10 (2 ^ 64) decimal_of below_ten field n e

pub hex_read_lem : (field : List ℕ) (v : ℕ) → v < 2 ^ 32 → (value_of 16 field < 2 ^ 32 → v ≡ value_of 16 field) → then_some (same_bytes field (hex_of v)) v ≡ hex_read field
unfolding hex_read
hex_read_lem field v small agrees = read_by 16 (2 ^ 32) hex_of hex_value field v small agrees

-- what is above the limit is no field's value, or that of one too long
pub hex_over : (field : List ℕ) (v : ℕ) → v ≡ value_of 16 field % 2 ^ 64 → 2 ^ 32 ≤ v → None ≡ hex_read field
unfolding hex_read
hex_over field v is over = go (ltb (value_of 16 field) (2 ^ 32)) refl
  where
    go : (t : Bool) → ltb (value_of 16 field) (2 ^ 32) ≡ t → None ≡ hex_read field
    go true e =
        let small : value_of 16 field < 2 ^ 32 = ltb-true _ _ e in
        let same : value_of 16 field % 2 ^ 64 ≡ value_of 16 field = mod-eq_of_lt (omega arith) in
        absurd (omega arith)
    go false e = rw e

pub hex_wrote : (n : ℕ) → n < 2 ^ 32 → hex_read (hex_of n) ≡ Some n
unfolding hex_read
hex_wrote n h = read_wrote 16 (2 ^ 32) hex_of hex_value n h

pub hex_was : (field : List ℕ) (n : ℕ) → hex_read field ≡ Some n → field ≡ hex_of n
unfolding hex_read
hex_was field n e = read_was 16 (2 ^ 32) hex_of hex_value field n e

-- ---- how long a writing is

decimal_few : (f n : ℕ) → length (decimal_in f n) ≤ f
unfolding decimal_in
decimal_few zero n = omega arith
decimal_few (suc f) n = go (ltb n 10) (decimal_few f (n / 10))
  where
    go : (t : Bool) → length (decimal_in f (n / 10)) ≤ f → length (cond t ((48 + n) ∷ []) (decimal_in f (n / 10) ++ ((48 + n % 10) ∷ []))) ≤ suc f
    go true h = omega arith
    go false h = rw length-append (omega arith)

pub decimal_short : (n : ℕ) → length (decimal_of n) ≤ 20
decimal_short n = decimal_few 20 n

hex_many : (k n : ℕ) → length (hex_in k n) ≡ k
unfolding hex_in
hex_many zero n = refl
hex_many (suc k) n = let e = hex_many k (n / 16) in rw length-append (omega arith)

pub hex_length : (n : ℕ) → length (hex_of n) ≡ 8
hex_length n = hex_many 8 n

-- ---- decimal numbers: what `io::decimal` writes
decimal_by : (f k n : ℕ) → k ≤ f → n < 10 ^ suc k → (0 < k → 10 ^ k ≤ n) → digits 10 (suc k) n ≡ decimal_in (suc f) n
unfolding decimal_in
decimal_by f zero n l h g = rw (mod-eq_of_lt h, lt-ltb n 10 h)
decimal_by zero (suc k) n l h g = absurd (not-suc-le-zero l)
decimal_by (suc f) (suc k) n l h g =
    let low : 10 ^ k * 10 ≤ n = rw pow-suc at (g (omega arith)) in
    let one : 1 ≤ 10 ^ k = pow-le-pow_right (lit< tt) zero-le in
    let up : n / 10 < 10 ^ suc k = (div-lt_iff_lt-mul (lit< tt)).1 (rw pow-suc at h) in
    let down : 10 ^ k ≤ n / 10 = (le-div_iff_mul-le (lit< tt)).1 low in
    rw (le-ltb n 10 (omega arith), lt-ltb (n % 10) 10 (mod-lt n (lit< tt)), decimal_by f k (n / 10) (le_of_suc-le-suc l) up (λ p. down))

-- no number below 2^64 takes more than 20 digits
few : (n k : ℕ) → n < 2 ^ 64 → (1 < suc k → 10 ^ (suc k - 1) ≤ n) → k ≤ 19
few n k h g = go (dec_le k 19)
  where
    go : Dec (k ≤ 19) → k ≤ 19
    go (yes l) = l
    go (no l) =
        let long : 20 ≤ k = omega arith in
        let most : 10 ^ 20 ≤ 10 ^ k = pow-le-pow_right (lit< tt) long in
        let low : 10 ^ k ≤ n = rw sub-one at (g (omega arith)) in
        absurd (omega arith)

pub decimal_text : (n k : ℕ) → n < 2 ^ 64 → IsDigitCount 10 1 n k → digits 10 k n ≡ decimal_of n
decimal_text n zero h g = absurd (not-suc-le-zero g.0)
decimal_text n (suc k) h g = decimal_by 19 k n (few n k h g.2) g.1 (λ p. rw sub-one at (g.2 (suc-le-suc p)))
