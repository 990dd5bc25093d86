-- A line's steps in the registers: they leave the chain's words in the target and nothing else. Assumes nothing.
use mathlib.Core.Path.{◌≡◌, refl, sym, ap, ap₂, ◌∙◌}
use mathlib.Core.List.{List, [], ◌∷◌, ◌++◌, append-nil, append_assoc}
use native.Mathlib.Nat.{add-zero}
use Prim.Native.Nat.{ℕ, zero, suc, ◌+◌, ◌-◌, ◌≤◌, ◌<◌}
use native.Mathlib.Omega.{arith}
use lib.ListN.{length, get_or, set, length-set}
use lib.Seq.{sets, get_or-set_other, set_comm, length-sets}
use Rattle.alu.specs.declared.types.Flags.{Flags}
use Rattle.step.specs.declared.registers.State.{State}
use Rattle.step.specs.declared.forms.Step.{Step}
use Rattle.step.proofs.Promises.{Left, Alu, register, put, applied}
use Rattle.step.proofs.Leading.{executed}
use Rattle.recipes.specs.declared.types.Verb.{Verb}
use Rattle.recipes.specs.Listing.{first_step, other_step, with_clr, rising_rest, rising, falling_rest, falling}
use Rattle.recipes.specs.Rule.{radix, registers_from}
use Rattle.recipes.proofs.Chain.{Row, Word, Pairs, Bounded, low, high, sources, targets, highest}

-- ---- the words that a line reads

abbrev pub pairs : ℕ → ℕ → ℕ → List ℕ → Pairs
pairs zero p q d = []
pairs (suc n) p q d = (get_or d p 0, get_or d q 0) ∷ pairs n (suc p) (suc q) d

pub sources_pairs : (n p q : ℕ) (d : List ℕ) → sources (pairs n p q d) ≡ registers_from n p d
sources_pairs zero p q d = refl
sources_pairs (suc n) p q d = ap (λ (l : List ℕ). get_or d p 0 ∷ l) (sources_pairs n (suc p) (suc q) d)

pub targets_pairs : (n p q : ℕ) (d : List ℕ) → targets (pairs n p q d) ≡ registers_from n q d
targets_pairs zero p q d = refl
targets_pairs (suc n) p q d = ap (λ (l : List ℕ). get_or d q 0 ∷ l) (targets_pairs n (suc p) (suc q) d)

pub length_pairs : (n p q : ℕ) (d : List ℕ) → length (pairs n p q d) ≡ n
length_pairs zero p q d = refl
length_pairs (suc n) p q d = ap suc (length_pairs n (suc p) (suc q) d)

pub bounded_pairs : (n p q : ℕ) (d : List ℕ) → ((i : ℕ) → get_or d i 0 < radix) → Bounded (pairs n p q d)
bounded_pairs zero p q d h = tt
bounded_pairs (suc n) p q d h = (h p, h q, bounded_pairs n (suc p) (suc q) d h)

-- a store at i is outside n registers from p
abbrev pub Outside : ℕ → ℕ → ℕ → Type 0
Outside n p i = (k : ℕ) → p ≤ k → k < p + n → k ≡ i → ⊥

pub pairs_set : (n p q i v : ℕ) (d : List ℕ) → Outside n p i → Outside n q i → pairs n p q (set d i v) ≡ pairs n p q d
pairs_set zero p q i v d hp hq = refl
pairs_set (suc n) p q i v d hp hq =
    ap₂ {C = Pairs} (λ (e : ℕ × ℕ) (l : Pairs). e ∷ l)
    (ap₂ {C = ℕ × ℕ} (λ (a b : ℕ). (a, b)) (get_or-set_other d i p v 0 (hp p (omega arith) (omega arith)))
    (get_or-set_other d i q v 0 (hq q (omega arith) (omega arith))))
    (pairs_set n (suc p) (suc q) i v d (λ k a b. hp k (omega arith) (omega arith)) (λ k a b. hq k (omega arith) (omega arith)))

-- ---- the steps of a line

-- a verb's steps at one register: the first that it takes, and each other
abbrev pub first_at : Verb → (p q : ℕ) → List Step
first_at v p q = with_clr v q (first_step v p q)

abbrev pub other_at : Verb → (p q : ℕ) → List Step
other_at v p q = with_clr v q (other_step v p q)

-- a row of words stored from register q on
abbrev pub stored : State → ℕ → Row → State
stored s q r = record { d = sets s.d q r.words; a = s.a; flags = r.flags }

abbrev pub reflag : State → Flags → State
reflag s f = record { d = s.d; a = s.a; flags = f }

-- no word is overwritten before it is read: the words from p and q are the same ones, or apart, or p is above
abbrev pub Free : ℕ → ℕ → ℕ → Type 0
Free n p q = (i j : ℕ) → i < j → j < n → p + j ≡ q + i → ⊥

-- stores from i on are past j < i
pub get_d_sets_below : (d : List ℕ) (i j : ℕ) (vs : List ℕ) → j < i → get_or (sets d i vs) j 0 ≡ get_or d j 0
get_d_sets_below d i j [] h = refl
get_d_sets_below d i j (v ∷ vs) h =
    get_d_sets_below (set d i v) (suc i) j vs (omega arith) ∙ get_or-set_other d i j v 0 (omega arith)

set_sets : (d : List ℕ) (i j : ℕ) (vs : List ℕ) (u : ℕ) → j < i → set (sets d i vs) j u ≡ sets (set d j u) i vs
set_sets d i j [] u h = refl
set_sets d i j (v ∷ vs) u h =
    set_sets (set d i v) (suc i) j vs u (omega arith)
    ∙ ap (λ (l : List ℕ). sets l (suc i) vs) (set_comm d i j v u (omega arith))

-- highest first, with the lowest word at the end
falling_rest_snoc : (v : Verb) (n p q : ℕ) → falling_rest v (suc n) p q ≡ falling_rest v n (suc p) (suc q) ++ other_at v p q
unfolding falling_rest
falling_rest_snoc v zero p q = append-nil _ ∙ ap₂ (other_at v) (add-zero p) (add-zero q)
falling_rest_snoc v (suc n) p q =
    ap₂ {C = List Step} (λ (ks ls : List Step). ks ++ ls) (ap₂ (other_at v) (shift p n) (shift q n)) (falling_rest_snoc v n p q)
    ∙ sym (append_assoc (other_at v (suc p + n) (suc q + n)) (falling_rest v n (suc p) (suc q)) (other_at v p q))
  where
    shift : (p n : ℕ) → p + suc n ≡ suc p + n
    shift p n = omega arith

falling_snoc : (v : Verb) (n p q : ℕ) → falling v (suc (suc n)) p q ≡ falling v (suc n) (suc p) (suc q) ++ other_at v p q
falling_snoc v n p q =
    ap₂ {C = List Step} (λ (ks ls : List Step). ks ++ ls) (ap₂ (first_at v) (omega arith) (omega arith)) (falling_rest_snoc v n p q)
    ∙ sym (append_assoc (first_at v (suc p + n) (suc q + n)) (falling_rest v n (suc p) (suc q)) (other_at v p q))

module _ (m : Alu) where
  pub executed_append : (ks ls : List Step) (s : State) → executed m (ks ++ ls) s ≡ executed m ls (executed m ks s)
  executed_append [] ls s = refl
  executed_append (k ∷ ks) ls s = executed_append ks ls (applied m k s)

  -- A verb whose steps at a word do g, the first from flags that `start` gives; Ok is what they need of the two registers.
  module _ (v : Verb) (g : Word) (start : ℕ → Flags → Flags) (Ok : ℕ → ℕ → Type 0) (up : (p q : ℕ) → Ok p q → Ok (suc p) (suc q))
      (next : (p q : ℕ) (s : State) → Ok p q → q < length s.d
      → executed m (other_at v p q) s ≡ put s q (g (register s p) (register s q) s.flags))
      (first : (p q : ℕ) (s : State) → Ok p q → q < length s.d → ((i : ℕ) → register s i < radix)
      → executed m (first_at v p q) s ≡ put s q (g (register s p) (register s q) (start (register s q) s.flags)))
    where
      each_run : (n p q : ℕ) (s : State) → Ok p q → Free n p q → q + n ≤ length s.d
          → executed m (rising_rest v n p q) s ≡ stored s q (low g (pairs n p q s.d) s.flags)
      unfolding rising_rest
      each_run zero p q s ok free fits = refl
      each_run (suc n) p q s ok free fits =
          let r : Left = g (register s p) (register s q) s.flags in
          executed_append (other_at v p q) (rising_rest v n (suc p) (suc q)) s
          ∙ ap (executed m (rising_rest v n (suc p) (suc q))) (next p q s ok (omega arith))
          ∙ each_run n (suc p) (suc q) (put s q r) (up p q ok) (λ i j a b e. free i j a (omega arith) (omega arith))
          (omega (arith, length-set s.d q r.result))
          ∙ ap (λ (ps : Pairs). stored (put s q r) (suc q) (low g ps r.flags))
          (pairs_set n (suc p) (suc q) q r.result s.d
          (λ k a b e. free 0 (k - p) (omega arith) (omega arith) (omega arith)) (λ k a b e. omega arith))

      -- the first step is the chain's own, from other flags
      pub rising_run : (n p q : ℕ) (s : State) → ((i : ℕ) → register s i < radix) → Ok p q → Free (suc n) p q → q + suc n ≤ length s.d
          → executed m (rising v (suc n) p q) s ≡ stored s q (low g (pairs (suc n) p q s.d) (start (register s q) s.flags))
      unfolding rising_rest
      rising_run n p q s small ok free fits =
          let t : State = reflag s (start (register s q) s.flags) in
          executed_append (first_at v p q) (rising_rest v n (suc p) (suc q)) s
          ∙ ap (executed m (rising_rest v n (suc p) (suc q))) (first p q s ok (omega arith) small ∙ sym (next p q t ok (omega arith)))
          ∙ sym (executed_append (other_at v p q) (rising_rest v n (suc p) (suc q)) t)
          ∙ each_run (suc n) p q t ok free fits

      pub falling_run : (n q : ℕ) (s : State) → ((i : ℕ) → register s i < radix) → Ok q q → q + suc n ≤ length s.d
          → executed m (falling v (suc n) q q) s
          ≡ stored s q (high g (pairs (suc n) q q s.d) (start (highest (register s q) (registers_from n (suc q) s.d)) s.flags))
      unfolding falling_rest
      falling_run zero q s small ok fits =
          ap (λ (ks : List Step). executed m ks s) (append-nil _ ∙ ap₂ (first_at v) (add-zero q) (add-zero q)) ∙ first q q s ok (omega arith) small
      falling_run (suc n) q s small ok fits =
          let r : Row = high g (pairs (suc n) (suc q) (suc q) s.d)
          (start (highest (register s (suc q)) (registers_from n (suc (suc q)) s.d)) s.flags) in
          ap (λ (ks : List Step). executed m ks s) (falling_snoc v n q q)
          ∙ executed_append (falling v (suc n) (suc q) (suc q)) (other_at v q q) s
          ∙ ap (executed m (other_at v q q)) (falling_run n (suc q) s small (up q q ok) (omega arith))
          ∙ next q q (stored s (suc q) r) ok (omega (arith, length-sets s.d (suc q) r.words))
          ∙ ap (λ (x : ℕ). put (stored s (suc q) r) q (g x x r.flags)) (get_d_sets_below s.d (suc q) q r.words (omega arith))
          ∙ ap (λ (l : List ℕ). record { d = l; a = s.a; flags = (g (register s q) (register s q) r.flags).flags })
          (set_sets s.d (suc q) q r.words _ (omega arith))
