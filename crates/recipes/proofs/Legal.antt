-- The steps of an accepted recipe's listing are legal steps of the machine, so that each is done, and has a figure that doesn't hang on the state: the
-- one that the printer shows. Assumes nothing.
--     listing_legal   every step of the listing is one that the step machine's promises speak of
--     figure_same     a legal step has the printed figure in every state
--     numbered_bare   with its text lines or without, it is one listing; clocks_bare: and has one sum of figures
use mathlib.Core.Path.{◌≡◌, refl, sym, ◌∙◌, ap, ap₂}
use mathlib.Core.Bool.{Bool, true, false, cond}
use mathlib.Core.List.{List, [], ◌∷◌, ◌++◌, map, map-append}
use Prim.Native.Nat.{ℕ, zero, suc, ◌+◌, ◌*◌, ◌/◌, ◌≤◌, ◌<◌}
use native.Mathlib.Omega.{arith}
use Rattle.step.specs.declared.registers.State.{State}
use Rattle.step.specs.declared.forms.Step.{Step}
use Rattle.step.specs.Perform.{perform_of}
use Rattle.step.specs.Lines.{with_line, bare}
use Rattle.step.proofs.Promises.{Legal, performs}
use Rattle.step.proofs.Leading.{All}
use Rattle.recipes.specs.declared.types.Verb.{Verb}
use Rattle.recipes.specs.declared.types.Verb.TheVariants.{Clear, Copy, Add, Sub, Neg, Not, Halve, Down, Up}
use Rattle.recipes.specs.declared.types.Line.{Line}
use Rattle.recipes.specs.Recipe.{is_copy, target, Names, Accepted}
use Rattle.recipes.specs.Listing.{clr_step, first_step, other_step, with_clr, highest_first, rising_rest, falling_rest, rising, falling, line_steps, listing_of, numbered_of, at_rest, figure_of, clocks_of}
use Rattle.recipes.proofs.Places.{number_fits}

-- ---- what holds of a verb's steps, and of a CLR, on registers of the eight holds of every step of an accepted recipe's listing
module _ (P : Step → Type 0) (clr : (q : ℕ) → q < 8 → P (clr_step q)) (first : (v : Verb) (p q : ℕ) → p < 8 → q < 8 → P (first_step v p q))
    (other : (v : Verb) (p q : ℕ) → p < 8 → q < 8 → P (other_step v p q)) where
  both_all : (ks ls : List Step) → All P ks → All P ls → All P (ks ++ ls)
  both_all [] ls h t = t
  both_all (k ∷ ks) ls h t = (h.0, both_all ks ls h.1 t)

  there_all : (v : Verb) (q : ℕ) (k : Step) → q < 8 → P k → All P (with_clr v q k)
  there_all v q k b h = go (is_copy v)
    where
      go : (t : Bool) → All P (cond t (clr_step q ∷ k ∷ []) (k ∷ []))
      go true = (clr q b, (h, tt))
      go false = (h, tt)

  rising_rest_all : (v : Verb) (n p q : ℕ) → p + n ≤ 8 → q + n ≤ 8 → All P (rising_rest v n p q)
  unfolding rising_rest
  rising_rest_all v zero p q a b = tt
  rising_rest_all v (suc n) p q a b =
      both_all (with_clr v q (other_step v p q)) _ (there_all v q (other_step v p q) (omega arith) (other v p q (omega arith) (omega arith))) (rising_rest_all v n (suc p) (suc q) (omega arith) (omega arith))

  falling_rest_all : (v : Verb) (n p q : ℕ) → p + n ≤ 8 → q + n ≤ 8 → All P (falling_rest v n p q)
  unfolding falling_rest
  falling_rest_all v zero p q a b = tt
  falling_rest_all v (suc n) p q a b =
      both_all (with_clr v (q + n) (other_step v (p + n) (q + n))) _ (there_all v (q + n) (other_step v (p + n) (q + n)) (omega arith) (other v (p + n) (q + n) (omega arith) (omega arith))) (falling_rest_all v n p q (omega arith) (omega arith))

  rising_all : (v : Verb) (n p q : ℕ) → p + n ≤ 8 → q + n ≤ 8 → All P (rising v n p q)
  rising_all v zero p q a b = tt
  rising_all v (suc n) p q a b =
      both_all (with_clr v q (first_step v p q)) _ (there_all v q (first_step v p q) (omega arith) (first v p q (omega arith) (omega arith))) (rising_rest_all v n (suc p) (suc q) (omega arith) (omega arith))

  falling_all : (v : Verb) (n p q : ℕ) → p + n ≤ 8 → q + n ≤ 8 → All P (falling v n p q)
  falling_all v zero p q a b = tt
  falling_all v (suc n) p q a b =
      both_all (with_clr v (q + n) (first_step v (p + n) (q + n))) _ (there_all v (q + n) (first_step v (p + n) (q + n)) (omega arith) (first v (p + n) (q + n) (omega arith) (omega arith))) (falling_rest_all v n p q (omega arith) (omega arith))

  line_all : (w : ℕ) (l : Line) → Names (8 / w) l → All P (line_steps w l)
  unfolding line_steps
  line_all w l h = go (highest_first l.verb)
    where
      go : (t : Bool) → All P (cond t (falling l.verb w (l.a * w) (target l * w)) (rising l.verb w (l.a * w) (target l * w)))
      go true = falling_all l.verb w _ _ (number_fits w l.a h.source) (number_fits w (target l) h.goal)
      go false = rising_all l.verb w _ _ (number_fits w l.a h.source) (number_fits w (target l) h.goal)

  listing_all : (w : ℕ) (ls : List Line) → Accepted w ls → All P (listing_of w ls)
  unfolding listing_of
  listing_all w [] h = tt
  listing_all w (l ∷ ls) h = both_all (line_steps w l) (listing_of w ls) (line_all w l h.0) (listing_all w ls h.1)

-- ---- they are legal

first_legal : (v : Verb) (p q : ℕ) → p < 8 → q < 8 → Legal (first_step v p q)
first_legal Clear p q a b = (refl, (tt, b))
first_legal Copy p q a b = (refl, (tt, a, b))
first_legal Add p q a b = (refl, (tt, a, b))
first_legal Sub p q a b = (refl, (tt, a, b))
first_legal Neg p q a b = (refl, (tt, b))
first_legal Not p q a b = (refl, (tt, b))
first_legal Halve p q a b = (refl, (tt, refl, b))
first_legal Down p q a b = (refl, (tt, refl, b))
first_legal Up p q a b = (refl, (tt, refl, b))

other_legal : (v : Verb) (p q : ℕ) → p < 8 → q < 8 → Legal (other_step v p q)
other_legal Clear p q a b = (refl, (tt, b))
other_legal Copy p q a b = (refl, (tt, a, b))
other_legal Add p q a b = (refl, (tt, a, b))
other_legal Sub p q a b = (refl, (tt, a, b))
other_legal Neg p q a b = (refl, (tt, b))
other_legal Not p q a b = (refl, (tt, b))
other_legal Halve p q a b = (refl, (tt, refl, b))
other_legal Down p q a b = (refl, (tt, refl, b))
other_legal Up p q a b = (refl, (tt, refl, b))

clr_legal : (q : ℕ) → q < 8 → Legal (clr_step q)
clr_legal q b = (refl, (tt, b))

pub line_legal : (w : ℕ) (l : Line) → Names (8 / w) l → All Legal (line_steps w l)
line_legal = line_all Legal clr_legal first_legal other_legal

pub listing_legal : (w : ℕ) (ls : List Line) → Accepted w ls → All Legal (listing_of w ls)
listing_legal = listing_all Legal clr_legal first_legal other_legal

pub figure_same : (k : Step) (s : State) → Legal k → (perform_of s k).clocks ≡ figure_of k
unfolding figure_of
figure_same k s h = (performs.does k s h).clocks ∙ sym (performs.does k at_rest h).clocks

-- ---- their lines are 0, and so the listing that the translator makes is this one but for its lines

abbrev NoLine : Step → Type 0
NoLine k = k.line ≡ 0

line_none : (w : ℕ) (l : Line) → Names (8 / w) l → All NoLine (line_steps w l)
line_none = line_all NoLine (λ q b. refl) (λ v p q a b. refl) (λ v p q a b. refl)

bare_again : (n : ℕ) (ks : List Step) → All NoLine ks → map bare (map (with_line n) ks) ≡ ks
bare_again n [] h = refl
bare_again n (k ∷ ks) h = ap₂ {C = List Step} (λ (k : Step) (ks : List Step). k ∷ ks) (ap (λ (m : ℕ). with_line m k) (sym h.0)) (bare_again n ks h.1)

-- the sum of the figures doesn't look at lines: that of the listing is the one that is printed
pub clocks_bare : (l : List Step) → clocks_of (map bare l) ≡ clocks_of l
unfolding clocks_of figure_of
clocks_bare [] = refl
clocks_bare (k ∷ ks) = ap (λ (n : ℕ). (perform_of at_rest k).clocks + n) (clocks_bare ks)

pub numbered_bare : (w n : ℕ) (ls : List Line) → Accepted w ls → map bare (numbered_of w n ls) ≡ listing_of w ls
unfolding numbered_of listing_of
numbered_bare w n [] h = refl
numbered_bare w n (l ∷ ls) h =
    map-append bare (map (with_line n) (line_steps w l)) (numbered_of w (suc n) ls)
    ∙ ap₂ {C = List Step} (λ (a b : List Step). a ++ b) (bare_again n (line_steps w l) (line_none w l h.0)) (numbered_bare w (suc n) ls h.1)
