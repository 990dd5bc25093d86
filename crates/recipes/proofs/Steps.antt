-- Laws of the listing's length: document 01's number of steps. Assumes nothing.
--     line_length     a line has w steps, a copy 2w
--     listing_steps   so a listing has `steps_of`; numbered_steps: with its lines too
--     steps_most      at most 8 a line, so that `lines_max` lines have at most `steps_max`
--     listing_append  the listing of lines and more lines is the one and then the other
use Prim.Native.Nat.{ℕ, zero, suc, ◌+◌, ◌*◌, ◌≤◌, ◌<◌}
use mathlib.Core.Bool.{Bool, true, false, cond}
use mathlib.Core.List.{List, [], ◌∷◌, ◌++◌, append_assoc, map}
use mathlib.Core.Path.{◌≡◌, refl, sym, ap, ◌∙◌}
use native.Mathlib.Omega.{arith}
use lib.ListN.{length, take, get_or, length-append, length-map}
use lib.Seq.{take-append-add}
use Rattle.step.specs.declared.forms.Step.{Step}
use Rattle.step.specs.Lines.{with_line}
use Rattle.recipes.specs.declared.types.Verb.{Verb}
use Rattle.recipes.specs.declared.types.Line.{Line}
use Rattle.recipes.specs.Recipe.{is_copy, target, unused}
use Rattle.recipes.specs.Listing.{clr_step, first_step, other_step, with_clr, highest_first, rising_rest, falling_rest, rising, falling, line_steps, listing_of, numbered_of, steps_at, steps_of}

-- the steps at one register
pub there_length : (v : Verb) (q : ℕ) (k : Step) → length (with_clr v q k) ≡ steps_at v
there_length v q k = go (is_copy v)
  where
    go : (t : Bool) → length (cond t (clr_step q ∷ k ∷ []) (k ∷ [])) ≡ cond t 2 1
    go true = refl
    go false = refl

pub one_or_two : (t : Bool) → (1 ≤ cond t 2 1) × (cond t 2 1 ≤ 2)
one_or_two true = (omega arith, omega arith)
one_or_two false = (omega arith, omega arith)

pub steps_at_most : (v : Verb) → (1 ≤ steps_at v) × (steps_at v ≤ 2)
steps_at_most v = one_or_two (is_copy v)

pub rising_rest_length : (v : Verb) (n p q : ℕ) → length (rising_rest v n p q) ≡ steps_at v * n
unfolding rising_rest
rising_rest_length v zero p q = omega arith
rising_rest_length v (suc n) p q = rw (length-append, there_length v q (other_step v p q), rising_rest_length v n (suc p) (suc q)) (omega arith)

pub falling_rest_length : (v : Verb) (n p q : ℕ) → length (falling_rest v n p q) ≡ steps_at v * n
unfolding falling_rest
falling_rest_length v zero p q = omega arith
falling_rest_length v (suc n) p q = rw (length-append, there_length v (q + n) (other_step v (p + n) (q + n)), falling_rest_length v n p q) (omega arith)

rising_length : (v : Verb) (n p q : ℕ) → length (rising v n p q) ≡ steps_at v * n
rising_length v zero p q = omega arith
rising_length v (suc n) p q = rw (length-append, there_length v q (first_step v p q), rising_rest_length v n (suc p) (suc q)) (omega arith)

falling_length : (v : Verb) (n p q : ℕ) → length (falling v n p q) ≡ steps_at v * n
falling_length v zero p q = omega arith
falling_length v (suc n) p q = rw (length-append, there_length v (q + n) (first_step v (p + n) (q + n)), falling_rest_length v n p q) (omega arith)

pub line_length : (w : ℕ) (l : Line) → length (line_steps w l) ≡ steps_at l.verb * w
unfolding line_steps
line_length w l = go (highest_first l.verb)
  where
    go : (t : Bool) → length (cond t (falling l.verb w (l.a * w) (target l * w)) (rising l.verb w (l.a * w) (target l * w))) ≡ steps_at l.verb * w
    go true = falling_length l.verb w (l.a * w) (target l * w)
    go false = rising_length l.verb w (l.a * w) (target l * w)

pub listing_steps : (w : ℕ) (ls : List Line) → length (listing_of w ls) ≡ steps_of w ls
unfolding listing_of steps_of
listing_steps w [] = refl
listing_steps w (l ∷ ls) = rw (length-append, line_length w l, listing_steps w ls)

pub numbered_length : (w n : ℕ) (l : Line) → length (map (with_line n) (line_steps w l)) ≡ steps_at l.verb * w
numbered_length w n l = length-map (line_steps w l) (with_line n) ∙ line_length w l

pub numbered_steps : (w n : ℕ) (ls : List Line) → length (numbered_of w n ls) ≡ steps_of w ls
unfolding numbered_of steps_of
numbered_steps w n [] = refl
numbered_steps w n (l ∷ ls) = rw (length-append, numbered_length w n l, numbered_steps w (suc n) ls)

pub steps_most : (w : ℕ) (ls : List Line) → w ≤ 4 → steps_of w ls ≤ 8 * length ls
unfolding steps_of
steps_most w [] h = omega arith
steps_most w (l ∷ ls) h = more (steps_at l.verb) (steps_at_most l.verb).1 (steps_most w ls h)
  where
    more : (k : ℕ) → k ≤ 2 → steps_of w ls ≤ 8 * length ls → k * w + steps_of w ls ≤ 8 * suc (length ls)
    more zero e i = omega arith
    more (suc zero) e i = omega arith
    more (suc (suc zero)) e i = omega arith
    more (suc (suc (suc k))) e i = absurd (omega arith)

-- the listing of some lines and then of more
pub listing_append : (w : ℕ) (ls ms : List Line) → listing_of w (ls ++ ms) ≡ listing_of w ls ++ listing_of w ms
unfolding listing_of
listing_append w [] ms = refl
listing_append w (l ∷ ls) ms = ap (λ (ks : List Step). line_steps w l ++ ks) (listing_append w ls ms) ∙ sym (append_assoc (line_steps w l) (listing_of w ls) (listing_of w ms))

-- the listing of the first m lines is the first part of the listing
pub numbered_prefix : (w n m : ℕ) (ls : List Line) → take (steps_of w (take m ls)) (numbered_of w n ls) ≡ numbered_of w n (take m ls)
unfolding numbered_of steps_of
numbered_prefix w n zero ls = refl
numbered_prefix w n (suc m) [] = refl
numbered_prefix w n (suc m) (l ∷ ls) =
    rw (← numbered_length w n l, take-append-add, numbered_prefix w (suc n) m ls)

-- one line more
pub steps_more : (w k : ℕ) (ls : List Line) → k < length ls → steps_of w (take (suc k) ls) ≡ steps_of w (take k ls) + steps_at (get_or ls k unused).verb * w
unfolding steps_of
steps_more w k [] h = absurd (omega arith)
steps_more w zero (l ∷ ls) h = omega arith
steps_more w (suc k) (l ∷ ls) h = rw (steps_more w k ls (omega arith)) (omega arith)

-- the first lines have no more steps than all
pub steps_prefix : (w n : ℕ) (ls : List Line) → steps_of w (take n ls) ≤ steps_of w ls
unfolding steps_of
steps_prefix w zero ls = omega arith
steps_prefix w (suc n) [] = omega arith
steps_prefix w (suc n) (l ∷ ls) = let h = steps_prefix w n ls in omega arith

-- what owning an array of structs tells of its list
pub mapped : (X Y : Type 0) (f : X → Y) (l : List X) (n : ℕ) → length (map f l) ≡ n → length l ≡ n
mapped X Y f l n e = sym (length-map l f) ∙ e
