-- What each line's steps leave: the rule's value in the target, the rule's X, and after add, sub and neg the whole number's flags. Assumes nothing.
use mathlib.Core.Path.{◌≡◌, refl, sym, ap, ◌∙◌, subst}
use mathlib.Core.Bool.{Bool, false, cond, true≢false}
use Prim.Native.Nat.{ℕ, suc, ◌+◌, ◌*◌, ◌/◌, ◌^◌, ◌<◌}
use native.Mathlib.Nat.{eq_of_mul-eq-mul_right}
use native.Mathlib.Omega.{arith}
use lib.ListN.{length, get_or}
use Rattle.alu.specs.declared.types.Flags.{Flags}
use Rattle.alu.specs.declared.shift_rotate.ShiftOp.TheVariants.{Roxr}
use Rattle.alu.specs.Bits.{lowest, digit}
use Rattle.alu.specs.ConditionCodes.{add_flags, sub_flags, neg_flags}
use Rattle.step.specs.declared.registers.State.{State}
use Rattle.step.proofs.Promises.{Alu, Promises, register}
use Rattle.step.proofs.Leading.{executed}
use Rattle.recipes.specs.declared.types.Verb.{Verb}
use Rattle.recipes.specs.declared.types.Verb.TheVariants.{Clear, Copy, Add, Sub, Neg, Not, Halve, Down, Up}
use Rattle.recipes.specs.declared.types.Line.{Line}
use Rattle.recipes.specs.Recipe.{takes_two, target, Names}
use Rattle.recipes.specs.Listing.{highest_first, rising, falling, line_steps}
use Rattle.recipes.specs.Rule.{value, registers_from, numbers_of, value_after, x_after, codes_of}
use Rattle.recipes.specs.Demand.{EightLongs, Holds}
use Rattle.recipes.proofs.Chain.{modulus, modulus_suc, Row, Word, Pairs, AllBelow, Kept, low, high, low_length, high_length, low_below, high_below, low_kept, high_kept, low_flags, value_below, highest, Are}
use Rattle.recipes.proofs.Registers.{pairs, stored, sources_pairs, targets_pairs, length_pairs, bounded_pairs, rising_run, falling_run}
use Rattle.recipes.proofs.Places.{number_fits}
use Rattle.recipes.proofs.Numbers.{free, get_d_numbers, number_below, highest_number}
use Rattle.recipes.proofs.Whole.{sum_mod, sum_carry, sub_mod, sub_borrow, neg_mod, neg_borrow, half_out, half_value}
use Rattle.recipes.proofs.Verbs.{balance_of, carry_of, start_of, Ok, word_of, copied_x, next_does, first_does, word_below, rise_kept, fall_kept}
use Rattle.recipes.proofs.Wide.{adds, subs, negs}

-- number k of a state
abbrev pub num : (w : ℕ) → State → (k : ℕ) → ℕ
num w s k = get_or (numbers_of w s.d) k 0

-- t is s with a row of w words in number b that is what verb v makes of it, from number a
pub record Does (w : ℕ) (v : Verb) (a b : ℕ) (s t : State) : Type 0 where
  pub row : Row
  pub lands : t ≡ stored s (b * w) row
  pub size : length row.words ≡ w
  pub below : AllBelow row.words
  pub result : value row.words ≡ value_after (32 * w) v (num w s a) (num w s b)
  pub x : row.flags.x ≡ x_after (32 * w) v (num w s a) (num w s b) s.flags.x
  pub codes : Holds (codes_of (32 * w) v (num w s a) (num w s b)) row.flags

module _ (m : Alu) (say : Promises m) where
  module _ (n : ℕ) (s : State) (ok : EightLongs s.d) where
    abbrev number : ℕ → ℕ
    number = num (suc n) s

    number_small : (a : ℕ) → a < 8 / suc n → number a < modulus (suc n)
    number_small a ha = rw (get_d_numbers (suc n) s.d a ha) (number_below (suc n) s.d a ok)

    abbrev pairs_of : ℕ → ℕ → Pairs
    pairs_of a b = pairs (suc n) (a * suc n) (b * suc n) s.d

    abbrev risen : Verb → ℕ → ℕ → Row
    risen v a b = low (word_of m v) (pairs_of a b) (start_of v (register s (b * suc n)) s.flags)

    abbrev beginning : Verb → ℕ → Flags
    beginning v a = start_of v (highest (register s (a * suc n)) (registers_from n (suc (a * suc n)) s.d)) s.flags

    abbrev fallen : Verb → ℕ → Row
    fallen v a = high (λ s d f. m.shift Roxr d f) (pairs_of a a) (beginning v a)

    module _ (a b : ℕ) (ha : a < 8 / suc n) (hb : b < 8 / suc n) where
      are : Are (pairs_of a b) (suc n) (number a) (number b)
      are =
          record {
            size = length_pairs (suc n) (a * suc n) (b * suc n) s.d;
            source = ap value (sources_pairs (suc n) (a * suc n) (b * suc n) s.d) ∙ sym (get_d_numbers (suc n) s.d a ha);
            goal = ap value (targets_pairs (suc n) (a * suc n) (b * suc n) s.d) ∙ sym (get_d_numbers (suc n) s.d b hb);
            bounded = bounded_pairs (suc n) (a * suc n) (b * suc n) s.d ok.each;
          }

      rise_size : (v : Verb) → length (risen v a b).words ≡ suc n
      rise_size v = low_length (word_of m v) (pairs_of a b) _ ∙ are.size

      rise_below : (v : Verb) → AllBelow (risen v a b).words
      rise_below v = low_below (word_of m v) (word_below m say v) (pairs_of a b) _ are.bounded

      small : (v : Verb) → value (risen v a b).words < modulus (suc n)
      small v = rw (rise_size v) at (value_below (risen v a b).words (rise_below v))

      -- the balance of the whole numbers
      kept : (v : Verb) → highest_first v ≡ false
          → Kept (balance_of v) (modulus (suc n)) (carry_of v (start_of v (register s (b * suc n)) s.flags)) (number a) (number b)
          (value (risen v a b).words) (carry_of v (risen v a b).flags)
      kept v e = low_kept (word_of m v) (balance_of v) (carry_of v) (rise_kept m say v e) (pairs_of a b) _ (suc n) (number a) (number b) are

      rise_value : (v : Verb) → highest_first v ≡ false → value (risen v a b).words ≡ value_after (32 * suc n) v (number a) (number b)
      rise_value Clear e = omega (arith, kept Clear e)
      rise_value Copy e = omega (arith, kept Copy e)
      rise_value Add e = sym (sum_mod (modulus (suc n)) (number b + number a) _ (risen Add a b).flags.x (small Add) (omega (arith, kept Add e)))
      rise_value Sub e =
          sym (sub_mod (modulus (suc n)) (number b) (number a) _ (risen Sub a b).flags.x (small Sub) (omega (arith, number_small a ha)) (omega (arith, kept Sub e)))
      rise_value Neg e = sym (neg_mod (modulus (suc n)) (number b) _ (risen Neg a b).flags.x (small Neg) (omega (arith, number_small b hb)) (omega (arith, kept Neg e)))
      rise_value Not e = omega (arith, kept Not e)
      rise_value Halve e = absurd (true≢false e)
      rise_value Down e = absurd (true≢false e)
      rise_value Up e = sym (sum_mod (modulus (suc n)) (2 * number b) _ (risen Up a b).flags.x (small Up) (omega (arith, kept Up e)))

      rise_x : (v : Verb) → highest_first v ≡ false → (risen v a b).flags.x ≡ x_after (32 * suc n) v (number a) (number b) s.flags.x
      rise_x Clear e =
          low_flags (word_of m Clear) (λ f. f.x ≡ s.flags.x) (λ s d f hs hd t. say.clr_x d f ∙ t) (pairs_of a b) s.flags are.bounded refl
      rise_x Copy e =
          low_flags (word_of m Copy) (λ f. f.x ≡ false) (λ s d f hs hd t. copied_x m say s d f hs)
          (pairs n (suc (a * suc n)) (suc (b * suc n)) s.d) _ are.bounded.2 (copied_x m say _ _ _ (ok.each (a * suc n)))
      rise_x Add e = sym (sum_carry (modulus (suc n)) (number b + number a) _ (risen Add a b).flags.x (small Add) (omega (arith, kept Add e)))
      rise_x Sub e =
          sym (sub_borrow (modulus (suc n)) (number b) (number a) _ (risen Sub a b).flags.x (small Sub) (number_small a ha) (omega (arith, kept Sub e)))
      rise_x Neg e = sym (neg_borrow (modulus (suc n)) (number b) _ (risen Neg a b).flags.x (small Neg) (omega (arith, kept Neg e)))
      rise_x Not e =
          low_flags (word_of m Not) (λ f. f.x ≡ s.flags.x) (λ s d f hs hd t. say.not_x d f ∙ t) (pairs_of a b) s.flags are.bounded refl
      rise_x Halve e = absurd (true≢false e)
      rise_x Down e = absurd (true≢false e)
      rise_x Up e = sym (sum_carry (modulus (suc n)) (2 * number b) _ (risen Up a b).flags.x (small Up) (omega (arith, kept Up e)))

      -- add, sub and neg start with X clear and Z set
      rise_codes : (v : Verb) → highest_first v ≡ false → Holds (codes_of (32 * suc n) v (number a) (number b)) (risen v a b).flags
      rise_codes Clear e = tt
      rise_codes Copy e = tt
      rise_codes Add e = adds m say _ _ _ (suc n) (number a) (number b) are ∙ ap (add_flags (32 * suc n) (number a) (number b)) (rise_value Add e)
      rise_codes Sub e = subs m say _ _ _ (suc n) (number a) (number b) are ∙ ap (sub_flags (32 * suc n) (number a) (number b)) (rise_value Sub e)
      rise_codes Neg e = negs m say _ _ _ (suc n) (number a) (number b) are ∙ ap (neg_flags (32 * suc n) (number b)) (rise_value Neg e)
      rise_codes Not e = tt
      rise_codes Halve e = tt
      rise_codes Down e = tt
      rise_codes Up e = tt

      rises : (v : Verb) → highest_first v ≡ false → (v ≡ Copy → a ≡ b → ⊥)
          → Does (suc n) v a b s (executed m (rising v (suc n) (a * suc n) (b * suc n)) s)
      rises v e apart =
          record {
            row = risen v a b;
            lands =
                rising_run m v (word_of m v) (start_of v) (Ok v) (λ p q o c t. o c (omega arith)) (next_does m say v) (first_does m say v) n (a * suc n)
                (b * suc n) s ok.each (λ c t. apart c (eq_of_mul-eq-mul_right (suc n) (omega arith) a b t)) (free (suc n) a b)
                (omega (arith, number_fits (suc n) b hb, ok.count));
            size = rise_size v;
            below = rise_below v;
            result = rise_value v e;
            x = rise_x v e;
            codes = rise_codes v e;
          }

    fall_lands : (v : Verb) (a : ℕ) → a < 8 / suc n → (v ≡ Copy → ⊥)
        → executed m (falling v (suc n) (a * suc n) (a * suc n)) s ≡ stored s (a * suc n) (high (word_of m v) (pairs_of a a) (beginning v a))
    fall_lands v a ha other =
        falling_run m v (word_of m v) (start_of v) (Ok v) (λ p q o c t. o c (omega arith)) (next_does m say v) (first_does m say v) n (a * suc n) s
        ok.each (λ c t. other c) (omega (arith, number_fits (suc n) a ha, ok.count))

    -- down and halve: chains of ROXR, into which X comes at the top
    falls : (v : Verb) (a : ℕ) → a < 8 / suc n → (enter : Bool) → (beginning v a).x ≡ enter → (t : State) → t ≡ stored s (a * suc n) (fallen v a)
        → cond enter ((number a + modulus (suc n)) / 2) (number a / 2) ≡ value_after (32 * suc n) v (number a) (number a)
        → lowest (number a) ≡ x_after (32 * suc n) v (number a) (number a) s.flags.x
        → Holds (codes_of (32 * suc n) v (number a) (number a)) (fallen v a).flags
        → Does (suc n) v a a s t
    falls v a ha enter enters t lands result x codes =
        let g : Word = λ s d f. m.shift Roxr d f in
        let r : Row = fallen v a in
        let kept : Kept (balance_of Down) (modulus (suc n)) (digit r.flags.x) (number a) (number a) (value r.words) (digit enter) =
        subst (λ (b : Bool). Kept (balance_of Down) (modulus (suc n)) (digit r.flags.x) (number a) (number a) (value r.words) (digit b)) enters
        (high_kept g (balance_of Down) (λ f. digit f.x) (fall_kept m say) (pairs_of a a) (beginning v a) (suc n) (number a) (number a) (are a a ha ha)) in
        let even : modulus (suc n) ≡ 2 * (2 ^ 31 * modulus n) = omega (arith, modulus_suc n) in
        let e : 2 * value r.words + digit r.flags.x ≡ number a + modulus (suc n) * digit enter = omega (arith, kept) in
        record {
          row = r;
          lands = lands;
          size = high_length g (pairs_of a a) (beginning v a) ∙ (are a a ha ha).size;
          below = high_below g (λ s d f hs hd. say.roxr d f) (pairs_of a a) (beginning v a) (are a a ha ha).bounded;
          result = half_value (modulus (suc n)) (2 ^ 31 * modulus n) (number a) _ r.flags.x enter even e ∙ result;
          x = sym (half_out (modulus (suc n)) (2 ^ 31 * modulus n) (number a) _ r.flags.x enter even e) ∙ x;
          codes = codes;
        }

    -- every verb
    pub line_does : (l : Line) → Names (8 / suc n) l → Does (suc n) l.verb l.a (target l) s (executed m (line_steps (suc n) l) s)
    unfolding line_steps
    line_does l h = go l.verb h.source h.goal h.apart
      where
        go : (v : Verb) → l.a < 8 / suc n → cond (takes_two v) l.b l.a < 8 / suc n
            → (v ≡ Copy → l.a ≡ cond (takes_two v) l.b l.a → ⊥)
            → let b = cond (takes_two v) l.b l.a in
            Does (suc n) v l.a b s
            (executed m (cond (highest_first v) (falling v (suc n) (l.a * suc n) (b * suc n)) (rising v (suc n) (l.a * suc n) (b * suc n))) s)
        go Clear ha hb o = rises l.a l.a ha hb Clear refl o
        go Copy ha hb o = rises l.a l.b ha hb Copy refl o
        go Add ha hb o = rises l.a l.b ha hb Add refl o
        go Sub ha hb o = rises l.a l.b ha hb Sub refl o
        go Neg ha hb o = rises l.a l.a ha hb Neg refl o
        go Not ha hb o = rises l.a l.a ha hb Not refl o
        go Halve ha hb o =
            falls Halve l.a ha _ (highest_number n s.d l.a ok ha) _ (fall_lands Halve l.a ha (λ c. o c refl)) refl refl tt
        go Down ha hb o = falls Down l.a ha false refl _ (fall_lands Down l.a ha (λ c. o c refl)) refl refl tt
        go Up ha hb o = rises l.a l.a ha hb Up refl o
