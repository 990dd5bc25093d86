-- Laws of the steps of a line by their places: what the translator makes one at a time is what the definition lists. Assumes nothing.
--     part_at      the steps at one register
--     line_at      step j of a line
--     numbered_at  and of a listing with its text lines
--     place_at     and back from a place to the line and its step
use Prim.Native.Nat.{ℕ, zero, suc, ◌+◌, ◌-◌, ◌*◌, ◌/◌, ◌%◌, ◌≤◌, ◌<◌}
use mathlib.Core.Bool.{Bool, true, false, cond, ◌&&◌}
use mathlib.Core.List.{List, [], ◌∷◌, ◌++◌, map}
use mathlib.Core.Path.{◌≡◌, refl, sym, ap, ap₂, ◌∙◌}
use native.Mathlib.Nat.{div-lt_iff_lt-mul, mod-lt, div-add-mod, div-mul-le_self, mul-le-mul_right}
use native.Mathlib.Decide.{dec_lt}
use native.Mathlib.Omega.{arith}
use borrow.Author.Tests.{ne_eqb}
use lib.Dec.{eqb}
use lib.ListN.{length, take, get_or, get_or-append}
use lib.Seq.{get_or-append-add}
use Rattle.step.specs.declared.forms.Step.{Step}
use Rattle.step.specs.declared.forms.OneOp.TheVariants.{Clr}
use Rattle.step.specs.Lines.{with_line}
use Rattle.recipes.specs.declared.lines.Act.TheVariants.{One}
use Rattle.recipes.specs.declared.types.Verb.{Verb}
use Rattle.recipes.specs.declared.types.Line.{Line}
use Rattle.recipes.specs.Recipe.{way_of, is_copy, target, unused}
use Rattle.recipes.specs.Listing.{step_of, clr_step, first_step, other_step, with_clr, highest_first, rising_rest, falling_rest, rising, falling, line_steps, numbered_of, steps_at, steps_of, blank}
use Rattle.recipes.specs.Making.{act_at, job_of, job_step}
use Rattle.recipes.proofs.Steps.{there_length, line_length, numbered_length, steps_at_most}

-- ---- the steps at one register

-- those of a verb: a copy's CLR, and its own
abbrev register_steps : (first : Bool) → Verb → (p q : ℕ) → List Step
register_steps first v p q = with_clr v q (step_of (cond first (way_of v).first (way_of v).other) p q)

-- part by part
pub part_at : (v : Verb) (first : Bool) (part p q : ℕ) → part < steps_at v
    → step_of (act_at (way_of v) first part) p q ≡ get_or (register_steps first v p q) part blank
part_at v first part p q h = go (is_copy v) part h
  where
    go : (t : Bool) (part : ℕ) → part < cond t 2 1
        → let act = cond first (way_of v).first (way_of v).other in
        step_of (cond (t && eqb part 0) (One Clr) act) p q ≡ get_or (cond t (clr_step q ∷ step_of act p q ∷ []) (step_of act p q ∷ [])) part blank
    go true zero h = refl
    go true (suc zero) h = refl
    go true (suc (suc part)) h = absurd (omega arith)
    go false zero h = refl
    go false (suc part) h = absurd (omega arith)

-- ---- the registers of a line: step r at the register taken at index i

-- one, and the rest behind it
at_first : (xs ys : List Step) (r s : ℕ) → length xs ≡ s → r < s → get_or (xs ++ ys) (0 * s + r) blank ≡ get_or xs r blank
at_first xs ys r s e h = let z : 0 * s + r ≡ r = omega arith in rw z (get_or-append xs ys blank r (omega arith))

at_later : (xs ys : List Step) (i r s : ℕ) → length xs ≡ s → get_or (xs ++ ys) (suc i * s + r) blank ≡ get_or ys (i * s + r) blank
at_later xs ys i r s e = let z : suc i * s + r ≡ length xs + (i * s + r) = omega arith in rw (z, get_or-append-add)

rising_rest_at : (v : Verb) (n p q i r : ℕ) → i < n → r < steps_at v → get_or (rising_rest v n p q) (i * steps_at v + r) blank ≡ get_or (register_steps false v (p + i) (q + i)) r blank
unfolding rising_rest
rising_rest_at v zero p q i r h k = absurd (omega arith)
rising_rest_at v (suc n) p q zero r h k =
    let a : p ≡ p + 0 = omega arith in let b : q ≡ q + 0 = omega arith in
    at_first (register_steps false v p q) (rising_rest v n (suc p) (suc q)) r (steps_at v) (there_length v q (other_step v p q)) k ∙ ap₂ (λ (x y : ℕ). get_or (register_steps false v x y) r blank) a b
rising_rest_at v (suc n) p q (suc i) r h k =
    let a : suc p + i ≡ p + suc i = omega arith in let b : suc q + i ≡ q + suc i = omega arith in
    at_later (register_steps false v p q) (rising_rest v n (suc p) (suc q)) i r (steps_at v) (there_length v q (other_step v p q)) ∙ rising_rest_at v n (suc p) (suc q) i r (omega arith) k
    ∙ ap₂ (λ (x y : ℕ). get_or (register_steps false v x y) r blank) a b

falling_rest_at : (v : Verb) (n p q i r : ℕ) → i < n → r < steps_at v
    → get_or (falling_rest v n p q) (i * steps_at v + r) blank ≡ get_or (register_steps false v (p + (n - 1 - i)) (q + (n - 1 - i))) r blank
unfolding falling_rest
falling_rest_at v zero p q i r h k = absurd (omega arith)
falling_rest_at v (suc n) p q zero r h k =
    let a : n ≡ suc n - 1 - 0 = omega arith in
    at_first (register_steps false v (p + n) (q + n)) (falling_rest v n p q) r (steps_at v) (there_length v (q + n) (other_step v (p + n) (q + n))) k ∙ ap (λ (x : ℕ). get_or (register_steps false v (p + x) (q + x)) r blank) a
falling_rest_at v (suc n) p q (suc i) r h k =
    let a : n - 1 - i ≡ suc n - 1 - suc i = omega arith in
    at_later (register_steps false v (p + n) (q + n)) (falling_rest v n p q) i r (steps_at v) (there_length v (q + n) (other_step v (p + n) (q + n))) ∙ falling_rest_at v n p q i r (omega arith) k
    ∙ ap (λ (x : ℕ). get_or (register_steps false v (p + x) (q + x)) r blank) a

rising_at : (v : Verb) (w p q i r : ℕ) → i < w → r < steps_at v → get_or (rising v w p q) (i * steps_at v + r) blank ≡ get_or (register_steps (eqb i 0) v (p + i) (q + i)) r blank
rising_at v zero p q i r h k = absurd (omega arith)
rising_at v (suc n) p q zero r h k =
    let a : p ≡ p + 0 = omega arith in let b : q ≡ q + 0 = omega arith in
    at_first (register_steps true v p q) (rising_rest v n (suc p) (suc q)) r (steps_at v) (there_length v q (first_step v p q)) k ∙ ap₂ (λ (x y : ℕ). get_or (register_steps true v x y) r blank) a b
rising_at v (suc n) p q (suc i) r h k =
    let a : suc p + i ≡ p + suc i = omega arith in let b : suc q + i ≡ q + suc i = omega arith in
    rw (ne_eqb (suc i) 0 (λ e. omega arith))
    (at_later (register_steps true v p q) (rising_rest v n (suc p) (suc q)) i r (steps_at v) (there_length v q (first_step v p q)) ∙ rising_rest_at v n (suc p) (suc q) i r (omega arith) k
    ∙ ap₂ (λ (x y : ℕ). get_or (register_steps false v x y) r blank) a b)

falling_at : (v : Verb) (w p q i r : ℕ) → i < w → r < steps_at v
    → get_or (falling v w p q) (i * steps_at v + r) blank ≡ get_or (register_steps (eqb i 0) v (p + (w - 1 - i)) (q + (w - 1 - i))) r blank
falling_at v zero p q i r h k = absurd (omega arith)
falling_at v (suc n) p q zero r h k =
    let a : n ≡ suc n - 1 - 0 = omega arith in
    at_first (register_steps true v (p + n) (q + n)) (falling_rest v n p q) r (steps_at v) (there_length v (q + n) (first_step v (p + n) (q + n))) k ∙ ap (λ (x : ℕ). get_or (register_steps true v (p + x) (q + x)) r blank) a
falling_at v (suc n) p q (suc i) r h k =
    let a : n - 1 - i ≡ suc n - 1 - suc i = omega arith in
    rw (ne_eqb (suc i) 0 (λ e. omega arith))
    (at_later (register_steps true v (p + n) (q + n)) (falling_rest v n p q) i r (steps_at v) (there_length v (q + n) (first_step v (p + n) (q + n))) ∙ falling_rest_at v n p q i r (omega arith) k
    ∙ ap (λ (x : ℕ). get_or (register_steps false v (p + x) (q + x)) r blank) a)

-- ---- a line

-- step j is part r at index i
pub record Cut (w s j : ℕ) : Type 0 where
  pub index : j / s < w
  pub part : j % s < s
  pub whole : j ≡ j / s * s + j % s

pub cut : (w s j : ℕ) → 0 < s → j < s * w → Cut w s j
cut w s j h l =
    let e : s * (j / s) + j % s ≡ j = div-add-mod j s in
    let m : j < w * s = omega arith in
    record { index = (div-lt_iff_lt-mul h).1 m; part = mod-lt j h; whole = omega arith }

pub line_at : (w : ℕ) (l : Line) (j : ℕ) → j < steps_at l.verb * w → job_step (job_of w l) j ≡ get_or (line_steps w l) j blank
unfolding line_steps
line_at w l j h =
    let s = steps_at l.verb in
    let k = cut w s j (steps_at_most l.verb).0 h in
    part_at l.verb (eqb (j / s) 0) (j % s) _ _ k.part
    ∙ sym (ap (λ (x : ℕ). get_or (line_steps w l) x blank) k.whole ∙ go (highest_first l.verb) k.index k.part)
  where
    go : (t : Bool) → j / steps_at l.verb < w → j % steps_at l.verb < steps_at l.verb
        → let s = steps_at l.verb in let at = cond t (w - 1 - j / s) (j / s) in
        get_or (cond t (falling l.verb w (l.a * w) (target l * w)) (rising l.verb w (l.a * w) (target l * w))) (j / s * s + j % s) blank
        ≡ get_or (register_steps (eqb (j / s) 0) l.verb (l.a * w + at) (target l * w + at)) (j % s) blank
    go true a b = falling_at l.verb w (l.a * w) (target l * w) (j / steps_at l.verb) (j % steps_at l.verb) a b
    go false a b = rising_at l.verb w (l.a * w) (target l * w) (j / steps_at l.verb) (j % steps_at l.verb) a b

-- the registers of a number are among the eight
pub number_fits : (w a : ℕ) → a < 8 / w → a * w + w ≤ 8
number_fits w a h =
    let whole : 8 / w * w ≤ 8 = div-mul-le_self 8 w in
    let least : suc a * w ≤ 8 / w * w = mul-le-mul_right w h in
    omega arith

-- ---- a listing with its lines, of which the first is text line n

pub lined_at : (n : ℕ) (ks : List Step) (j : ℕ) → j < length ks → with_line n (get_or ks j blank) ≡ get_or (map (with_line n) ks) j blank
lined_at n [] j h = absurd (omega arith)
lined_at n (k ∷ ks) zero h = refl
lined_at n (k ∷ ks) (suc j) h = lined_at n ks j (omega arith)

pub numbered_at : (w n : ℕ) (ls : List Line) (k j : ℕ) → k < length ls → j < steps_at (get_or ls k unused).verb * w
    → with_line (k + n) (get_or (line_steps w (get_or ls k unused)) j blank) ≡ get_or (numbered_of w n ls) (steps_of w (take k ls) + j) blank
unfolding numbered_of steps_of
numbered_at w n [] k j h i = absurd (omega arith)
numbered_at w n (l ∷ ls) zero j h i =
    let z : 0 + j ≡ j = omega arith in
    let first : 0 + n ≡ n = omega arith in
    let m = line_length w l in
    let inside : j < length (map (with_line n) (line_steps w l)) = let m = numbered_length w n l in omega arith in
    rw (z, first) (lined_at n (line_steps w l) j (omega arith) ∙ sym (get_or-append (map (with_line n) (line_steps w l)) (numbered_of w (suc n) ls) blank j inside))
numbered_at w n (l ∷ ls) (suc k) j h i =
    let ks = map (with_line n) (line_steps w l) in
    let e : steps_at l.verb * w + steps_of w (take k ls) + j ≡ length ks + (steps_of w (take k ls) + j) = let m = numbered_length w n l in omega arith in
    let later : suc k + n ≡ k + suc n = omega arith in
    ap (λ (m : ℕ). with_line m (get_or (line_steps w (get_or ls k unused)) j blank)) later
    ∙ (numbered_at w (suc n) ls k j (omega arith) i
    ∙ sym (ap (λ (x : ℕ). get_or (ks ++ numbered_of w (suc n) ls) x blank) e ∙ get_or-append-add ks (numbered_of w (suc n) ls) (steps_of w (take k ls) + j) blank))

-- place `at` is step j of line k, one of the first `many`
pub record At (w many : ℕ) (lines : List Line) (k j at : ℕ) : Type 0 where
  pub line : k < many
  pub step : j < steps_at (get_or lines k unused).verb * w
  pub place : at ≡ steps_of w (take k lines) + j

-- back from a place
abbrev pub Spot : (w : ℕ) → List Line → (at : ℕ) → Type 0
Spot w lines at = (k : ℕ) × ((j : ℕ) × At w (length lines) lines k j at)

pub place_at : (w : ℕ) (ls : List Line) (p : ℕ) → p < steps_of w ls → Spot w ls p
unfolding steps_of
place_at w [] p h = absurd (omega arith)
place_at w (l ∷ ls) p h = go (dec_lt p (steps_at l.verb * w)) (λ behind. place_at w ls (p - steps_at l.verb * w) (omega arith))
  where
    go : Dec (p < steps_at l.verb * w) → ((p < steps_at l.verb * w → ⊥) → Spot w ls (p - steps_at l.verb * w)) → Spot w (l ∷ ls) p
    go (yes inside) rest = (0, (p, record { line = omega arith; step = inside; place = omega arith }))
    go (no behind) rest =
        let r = rest behind in
        let e = r.1.1.place in
        let h = r.1.1.line in
        (suc r.0, (r.1.0, record { line = omega arith; step = r.1.1.step; place = omega arith }))
