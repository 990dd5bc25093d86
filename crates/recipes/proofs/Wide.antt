-- w words of ADDX leave the flags of one ADDX of 32w bits, from any X and Z; likewise SUBX and NEGX. Assumes nothing.
use mathlib.Core.Path.{◌≡◌, refl, sym, ap, ◌∙◌}
use mathlib.Core.Bool.{Bool, ◌&&◌}
use mathlib.Core.List.{[], ◌∷◌}
use Prim.Native.Nat.{ℕ, suc, ◌*◌, ◌<◌}
use native.Mathlib.Nat.{mod-eq_of_lt}
use native.Mathlib.Omega.{arith}
use lib.Dec.{eqb}
use lib.ListN.{length}
use Rattle.alu.specs.declared.types.Flags.{Flags}
use Rattle.alu.specs.ConditionCodes.{add_v, sub_v, neg_v, arith_flags, add_flags, sub_flags, neg_flags, keep_z}
use Rattle.step.proofs.Promises.{Left, Linked, Alu, Promises}
use Rattle.recipes.specs.declared.types.Verb.{Verb}
use Rattle.recipes.specs.declared.types.Verb.TheVariants.{Add, Sub, Neg}
use Rattle.recipes.specs.Rule.{value}
use Rattle.recipes.proofs.Chain.{modulus, Row, Pairs, Bounded, Are, AllBelow, low, low_length, low_below, low_kept, low_linked, value_below, sources, targets}
use Rattle.recipes.proofs.Verbs.{balance_of, carry_of, word_of, word_below, rise_kept}
use Rattle.recipes.proofs.Whole.{add_c_lem, sub_c_lem, neg_c_lem}

-- ---- numbers that are words

sources_below : (ps : Pairs) → Bounded ps → AllBelow (sources ps)
sources_below [] h = tt
sources_below (p ∷ ps) h = (h.0, sources_below ps h.2)

targets_below : (ps : Pairs) → Bounded ps → AllBelow (targets ps)
targets_below [] h = tt
targets_below (p ∷ ps) h = (h.1, targets_below ps h.2)

length_sources : (ps : Pairs) → length (sources ps) ≡ length ps
length_sources [] = refl
length_sources (p ∷ ps) = ap suc (length_sources ps)

length_targets : (ps : Pairs) → length (targets ps) ≡ length ps
length_targets [] = refl
length_targets (p ∷ ps) = ap suc (length_targets ps)

module _ (ps : Pairs) (n S D : ℕ) (are : Are ps n S D) where
  source_below : S < modulus n
  source_below = rw (length_sources ps ∙ are.size, are.source) at (value_below (sources ps) (sources_below ps are.bounded))

  goal_below : D < modulus n
  goal_below = rw (length_targets ps ∙ are.size, are.goal) at (value_below (targets ps) (targets_below ps are.bounded))

-- ---- a linked result has the operation's flags

linked_flags : (n : ℕ) (f : Flags) (v c : Bool) (r : Left) → Linked n f v r → c ≡ r.flags.x → r.flags ≡ keep_z f (arith_flags n r.result v c)
linked_flags n f v c r l e = λ i. record {
  x = sym e i;
  n = l.sign i;
  z = (l.zero ∙ ap (λ (k : ℕ). f.z && eqb k 0) (sym (mod-eq_of_lt l.below))) i;
  v = l.overflow i;
  c = (l.carry ∙ sym e) i;
}

module _ (m : Alu) (say : Promises m) (p : ℕ × ℕ) (ps : Pairs) (f : Flags) (n S D : ℕ) (are : Are (p ∷ ps) n S D) where
  abbrev row : Verb → Row
  row v = low (word_of m v) (p ∷ ps) f

  abbrev result : Verb → ℕ
  result v = value (row v).words

  small : (v : Verb) → result v < modulus n
  small v =
      rw (low_length (word_of m v) (p ∷ ps) f ∙ are.size) at (value_below (row v).words (low_below (word_of m v) (word_below m say v) (p ∷ ps) f are.bounded))

  some : 0 < 32 * n
  some = omega (arith, are.size)

  pub adds : (row Add).flags ≡ keep_z f (add_flags (32 * n) S D (result Add))
  unfolding add_flags
  adds =
      linked_flags (32 * n) f _ _ _ (low_linked (word_of m Add) add_v (λ s d f hs hd. say.addx s d f) p ps f n S D are)
      (add_c_lem (32 * n) some S D (result Add) f.x (row Add).flags.x (source_below (p ∷ ps) n S D are) (goal_below (p ∷ ps) n S D are) (small Add)
      (omega (arith, low_kept (word_of m Add) (balance_of Add) (carry_of Add) (rise_kept m say Add refl) (p ∷ ps) f n S D are)))

  pub subs : (row Sub).flags ≡ keep_z f (sub_flags (32 * n) S D (result Sub))
  unfolding sub_flags
  subs =
      linked_flags (32 * n) f _ _ _ (low_linked (word_of m Sub) sub_v (λ s d f hs hd. say.subx s d f) p ps f n S D are)
      (sub_c_lem (32 * n) some S D (result Sub) f.x (row Sub).flags.x (source_below (p ∷ ps) n S D are) (goal_below (p ∷ ps) n S D are) (small Sub)
      (omega (arith, low_kept (word_of m Sub) (balance_of Sub) (carry_of Sub) (rise_kept m say Sub refl) (p ∷ ps) f n S D are)))

  pub negs : (row Neg).flags ≡ keep_z f (neg_flags (32 * n) D (result Neg))
  unfolding neg_flags
  negs =
      linked_flags (32 * n) f _ _ _ (low_linked (word_of m Neg) (λ s d r. neg_v d r) (λ s d f hs hd. say.negx d f) p ps f n S D are)
      (neg_c_lem (32 * n) some D (result Neg) f.x (row Neg).flags.x (goal_below (p ∷ ps) n S D are) (small Neg)
      (omega (arith, low_kept (word_of m Neg) (balance_of Neg) (carry_of Neg) (rise_kept m say Neg refl) (p ∷ ps) f n S D are)))
