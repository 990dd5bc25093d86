-- Which fields are no verb, by their length and their first bytes. Assumes nothing.
use Prim.Native.Nat.{ℕ, ◌≤◌, ◌<◌}
use mathlib.Core.Bool.{false, and-false}
use mathlib.Core.List.{List, [], ◌∷◌}
use mathlib.Core.Path.{◌≡◌, refl}
use native.Mathlib.Nat.{not-suc-le-zero, le_of_suc-le-suc}
use native.Mathlib.Omega.{arith}
use borrow.Author.Tests.{ne_eqb}
use lib.Dec.{eqb}
use lib.ListN.{length, get_or}
use Rattle.std.specs.Prelude.{None, Some}
use Rattle.recipes.specs.declared.types.Verb.TheVariants.{Clear, Halve}
use Rattle.text.specs.Text.{same_bytes}
use Rattle.recipes.specs.Reader.{verb_of}

pub differs : (xs ys : List ℕ) → length ys < length xs → same_bytes xs ys ≡ false
unfolding same_bytes
differs [] ys h = absurd (not-suc-le-zero h)
differs (x ∷ xs) [] h = refl
differs (x ∷ xs) (y ∷ ys) h = rw (differs xs ys (le_of_suc-le-suc h)) (and-false (eqb x y))

pub long_word : (word : List ℕ) → 6 ≤ length word → verb_of word ≡ None
unfolding verb_of
long_word word h =
    let four : 5 ≤ length word = omega arith in
    let three : 4 ≤ length word = omega arith in
    let two : 3 ≤ length word = omega arith in
    simp differs

pub short_word : (word : List ℕ) → length word < 2 → verb_of word ≡ None
unfolding verb_of same_bytes
short_word [] h = refl
short_word (x ∷ []) h = simp and-false
short_word (x ∷ y ∷ word) h = absurd (omega arith)

-- of two bytes, not `u`; of three, not `a`, `s` or `n`; of four and of five, not `c` or the other, or not the next of a `c`
pub two_word : (word : List ℕ) → length word ≡ 2 → (get_or word 0 0 ≡ 117 → ⊥) → verb_of word ≡ None
unfolding verb_of same_bytes
two_word [] e h0 = absurd (omega arith)
two_word (x ∷ []) e h0 = absurd (omega arith)
two_word (x ∷ y ∷ []) e h0 = let e0 = ne_eqb x 117 h0 in simp (e0, and-false)
two_word (x ∷ y ∷ w ∷ word) e h0 = absurd (omega arith)

pub three_word : (word : List ℕ) → length word ≡ 3 → (get_or word 0 0 ≡ 97 → ⊥) → (get_or word 0 0 ≡ 115 → ⊥) → (get_or word 0 0 ≡ 110 → ⊥) → verb_of word ≡ None
unfolding verb_of same_bytes
three_word [] e h0 h1 h2 = absurd (omega arith)
three_word (x ∷ []) e h0 h1 h2 = absurd (omega arith)
three_word (x ∷ y ∷ []) e h0 h1 h2 = absurd (omega arith)
three_word (x ∷ y ∷ z ∷ []) e h0 h1 h2 = let e0 = ne_eqb x 97 h0 in let e1 = ne_eqb x 115 h1 in let e2 = ne_eqb x 110 h2 in simp (e0, e1, e2, and-false)
three_word (x ∷ y ∷ z ∷ w ∷ word) e h0 h1 h2 = absurd (omega arith)

pub four_word : (word : List ℕ) → length word ≡ 4 → (get_or word 0 0 ≡ 99 → ⊥) → (get_or word 0 0 ≡ 100 → ⊥) → verb_of word ≡ None
unfolding verb_of same_bytes
four_word [] e h0 h1 = absurd (omega arith)
four_word (x ∷ []) e h0 h1 = absurd (omega arith)
four_word (x ∷ y ∷ []) e h0 h1 = absurd (omega arith)
four_word (x ∷ y ∷ z ∷ []) e h0 h1 = absurd (omega arith)
four_word (x ∷ y ∷ z ∷ u ∷ []) e h0 h1 = let e0 = ne_eqb x 99 h0 in let e1 = ne_eqb x 100 h1 in simp (e0, e1, and-false)
four_word (x ∷ y ∷ z ∷ u ∷ w ∷ word) e h0 h1 = absurd (omega arith)

pub five_word : (word : List ℕ) → length word ≡ 5 → (get_or word 0 0 ≡ 99 → ⊥) → (get_or word 0 0 ≡ 104 → ⊥) → verb_of word ≡ None
unfolding verb_of same_bytes
five_word [] e h0 h1 = absurd (omega arith)
five_word (x ∷ []) e h0 h1 = absurd (omega arith)
five_word (x ∷ y ∷ []) e h0 h1 = absurd (omega arith)
five_word (x ∷ y ∷ z ∷ []) e h0 h1 = absurd (omega arith)
five_word (x ∷ y ∷ z ∷ u ∷ []) e h0 h1 = absurd (omega arith)
five_word (x ∷ y ∷ z ∷ u ∷ v ∷ []) e h0 h1 = let e0 = ne_eqb x 99 h0 in let e1 = ne_eqb x 104 h1 in simp (e0, e1, and-false)
five_word (x ∷ y ∷ z ∷ u ∷ v ∷ w ∷ word) e h0 h1 = absurd (omega arith)

pub four_word_c : (word : List ℕ) → length word ≡ 4 → get_or word 0 0 ≡ 99 → (get_or word 1 0 ≡ 111 → ⊥) → verb_of word ≡ None
unfolding verb_of same_bytes
four_word_c [] e c h = absurd (omega arith)
four_word_c (x ∷ []) e c h = absurd (omega arith)
four_word_c (x ∷ y ∷ []) e c h = absurd (omega arith)
four_word_c (x ∷ y ∷ z ∷ []) e c h = absurd (omega arith)
four_word_c (x ∷ y ∷ z ∷ u ∷ []) e c h = let a = ne_eqb x 100 (λ i. omega arith) in let o = ne_eqb y 111 h in simp (a, o, and-false)
four_word_c (x ∷ y ∷ z ∷ u ∷ v ∷ word) e c h = absurd (omega arith)

pub five_word_c : (word : List ℕ) → length word ≡ 5 → get_or word 0 0 ≡ 99 → (get_or word 1 0 ≡ 108 → ⊥) → verb_of word ≡ None
unfolding verb_of same_bytes
five_word_c [] e c h = absurd (omega arith)
five_word_c (x ∷ []) e c h = absurd (omega arith)
five_word_c (x ∷ y ∷ []) e c h = absurd (omega arith)
five_word_c (x ∷ y ∷ z ∷ []) e c h = absurd (omega arith)
five_word_c (x ∷ y ∷ z ∷ u ∷ []) e c h = absurd (omega arith)
five_word_c (x ∷ y ∷ z ∷ u ∷ v ∷ []) e c h = let a = ne_eqb x 104 (λ i. omega arith) in let l = ne_eqb y 108 h in simp (a, l, and-false)
five_word_c (x ∷ y ∷ z ∷ u ∷ v ∷ w ∷ word) e c h = absurd (omega arith)

-- the verbs of five bytes, byte by byte
pub clear_word : (word : List ℕ) → length word ≡ 5 → get_or word 0 0 ≡ 99 → get_or word 1 0 ≡ 108 → get_or word 2 0 ≡ 101 → get_or word 3 0 ≡ 97 → get_or word 4 0 ≡ 114 → verb_of word ≡ Some Clear
unfolding verb_of same_bytes
clear_word [] e h0 h1 h2 h3 h4 = absurd (omega arith)
clear_word (x ∷ []) e h0 h1 h2 h3 h4 = absurd (omega arith)
clear_word (x ∷ y ∷ []) e h0 h1 h2 h3 h4 = absurd (omega arith)
clear_word (x ∷ y ∷ z ∷ []) e h0 h1 h2 h3 h4 = absurd (omega arith)
clear_word (x ∷ y ∷ z ∷ u ∷ []) e h0 h1 h2 h3 h4 = absurd (omega arith)
clear_word (x ∷ y ∷ z ∷ u ∷ v ∷ []) e h0 h1 h2 h3 h4 = rw (h0, h1, h2, h3, h4)
clear_word (x ∷ y ∷ z ∷ u ∷ v ∷ w ∷ word) e h0 h1 h2 h3 h4 = absurd (omega arith)

pub halve_word : (word : List ℕ) → length word ≡ 5 → get_or word 0 0 ≡ 104 → get_or word 1 0 ≡ 97 → get_or word 2 0 ≡ 108 → get_or word 3 0 ≡ 118 → get_or word 4 0 ≡ 101 → verb_of word ≡ Some Halve
unfolding verb_of same_bytes
halve_word [] e h0 h1 h2 h3 h4 = absurd (omega arith)
halve_word (x ∷ []) e h0 h1 h2 h3 h4 = absurd (omega arith)
halve_word (x ∷ y ∷ []) e h0 h1 h2 h3 h4 = absurd (omega arith)
halve_word (x ∷ y ∷ z ∷ []) e h0 h1 h2 h3 h4 = absurd (omega arith)
halve_word (x ∷ y ∷ z ∷ u ∷ []) e h0 h1 h2 h3 h4 = absurd (omega arith)
halve_word (x ∷ y ∷ z ∷ u ∷ v ∷ []) e h0 h1 h2 h3 h4 = rw (h0, h1, h2, h3, h4)
halve_word (x ∷ y ∷ z ∷ u ∷ v ∷ w ∷ word) e h0 h1 h2 h3 h4 = absurd (omega arith)

-- for a tactic
pub ruleset by_length = (short_word, two_word, three_word, four_word, five_word, long_word)
