-- A chain of words, whatever the operation: a balance that each word keeps with the carry in and out is kept by the whole number. A word is here what a
-- register holds, 32 bits. Assumes nothing.
--     low_kept, high_kept   the balance of the whole number, lowest word first and highest word first
--     low_linked            N, Z, V and C of the whole number, lowest word first
use mathlib.Core.Path.{◌≡◌, refl, sym, ap, ap₂, ◌∙◌, subst₃}
use mathlib.Core.Bool.{Bool, true, false, ◌&&◌, and_comm}
use mathlib.Core.List.{List, [], ◌∷◌}
use Prim.Native.Nat.{ℕ, suc, ◌+◌, ◌*◌, ◌^◌, ◌<◌}
use native.Mathlib.Nat.{mul-suc, add_comm, add-zero}
use native.Mathlib.Omega.{arith}
use lib.Dec.{eqb}
use lib.Pow.{pow-add}
use lib.ListN.{length}
use Rattle.alu.specs.declared.types.Flags.{Flags}
use Rattle.alu.specs.Bits.{top, join}
use Rattle.alu.proofs.Wide.{join_top, join_zero}
use Rattle.step.proofs.Promises.{Left, Linked}
use Rattle.recipes.specs.Rule.{radix, value}

-- ---- M = 2^(32w), a word at a time

abbrev pub modulus : ℕ → ℕ
modulus w = 2 ^ (32 * w)

pub modulus_suc : (n : ℕ) → modulus (suc n) ≡ radix * modulus n
modulus_suc n = ap (λ (k : ℕ). 2 ^ k) (mul-suc 32 n ∙ add_comm (32 * n) 32) ∙ pow-add 2 32 (32 * n)

-- ---- rows of words

pub record Row : Type 0 where
  pub words : List ℕ
  pub flags : Flags

abbrev pub Word : Type 0
Word = ℕ → ℕ → Flags → Left

-- words with their sources, lowest first
abbrev pub Pairs : Type 0
Pairs = List (ℕ × ℕ)

abbrev pub sources : Pairs → List ℕ
sources [] = []
sources (p ∷ ps) = p.0 ∷ sources ps

abbrev pub targets : Pairs → List ℕ
targets [] = []
targets (p ∷ ps) = p.1 ∷ targets ps

abbrev pub Bounded : Pairs → Type 0
Bounded [] = Unit {0}
Bounded (p ∷ ps) = (p.0 < radix) × (p.1 < radix) × Bounded ps

-- they are numbers of n words: sources S, targets D
pub record Are (ps : Pairs) (n S D : ℕ) : Type 0 where
  pub size : length ps ≡ n
  pub source : value (sources ps) ≡ S
  pub goal : value (targets ps) ≡ D
  pub bounded : Bounded ps

-- the word operation g, lowest word first
abbrev pub low : Word → Pairs → Flags → Row
low g [] f = record { words = []; flags = f }
low g (p ∷ ps) f =
    record {
      words = (g p.0 p.1 f).result ∷ (low g ps (g p.0 p.1 f).flags).words;
      flags = (low g ps (g p.0 p.1 f).flags).flags;
    }

-- and highest word first
abbrev pub high : Word → Pairs → Flags → Row
high g [] f = record { words = []; flags = f }
high g (p ∷ ps) f =
    record {
      words = (g p.0 p.1 (high g ps f).flags).result ∷ (high g ps f).words;
      flags = (g p.0 p.1 (high g ps f).flags).flags;
    }

-- ---- balances

-- how many sources, targets and results stand on either side
pub record Balance : Type 0 where
  pub ls : ℕ
  pub lt : ℕ
  pub lr : ℕ
  pub rs : ℕ
  pub rt : ℕ
  pub rr : ℕ

abbrev pub left : Balance → ℕ → ℕ → ℕ → ℕ
left β s d r = β.ls * s + β.lt * d + β.lr * r

abbrev pub right : Balance → ℕ → ℕ → ℕ → ℕ
right β s d r = β.rs * s + β.rt * d + β.rr * r

-- i is carried in and o out
abbrev pub Kept : Balance → ℕ → ℕ → ℕ → ℕ → ℕ → ℕ → Type 0
Kept β M i s d r o = left β s d r + i ≡ right β s d r + M * o

link : (β : Balance) (M i s d r m S D R o : ℕ) → Kept β radix i s d r m → Kept β M m S D R o
    → Kept β (radix * M) i (s + radix * S) (d + radix * D) (r + radix * R) o
link β M i s d r m S D R o h t = omega arith

-- a number of n words is below 2^(32n)
abbrev pub AllBelow : List ℕ → Type 0
AllBelow [] = Unit {0}
AllBelow (d ∷ ds) = (d < radix) × AllBelow ds

pub value_below : (ds : List ℕ) → AllBelow ds → value ds < modulus (length ds)
value_below [] h = omega arith
value_below (d ∷ ds) h = omega (arith, modulus_suc (length ds), value_below ds h.1)

-- ---- signs, and zero

-- the top bit of the whole is the highest word's
top_cons : (n d v : ℕ) → d < radix → top (32 * suc n) v ≡ top (32 * suc (suc n)) (d + radix * v)
top_cons n d v h = sym (join_top 32 (32 * suc n) (omega arith) h v) ∙ ap₂ {C = Bool} top (omega arith) (omega arith)

abbrev pub highest : ℕ → List ℕ → ℕ
highest d [] = d
highest d (e ∷ ds) = highest e ds

pub highest_top : (d : ℕ) (ds : List ℕ) → AllBelow (d ∷ ds) → top 32 (highest d ds) ≡ top (32 * suc (length ds)) (value (d ∷ ds))
highest_top d [] h = ap (top 32) (sym (add-zero d))
highest_top d (e ∷ ds) h = highest_top e ds h.1 ∙ top_cons (length ds) d (value (e ∷ ds)) h.0

-- a number is 0 if its words are
zero_both : (d v : ℕ) → eqb d 0 && eqb v 0 ≡ eqb (d + radix * v) 0
zero_both d v =
    let joined : join 32 d v ≡ d + radix * v = omega arith in and_comm (eqb d 0) (eqb v 0) ∙ (sym (join_zero 32 d v) ∙ ap (λ (k : ℕ). eqb k 0) joined)

zero_under : (z : Bool) (d v : ℕ) → (z && eqb d 0) && eqb v 0 ≡ z && eqb (d + radix * v) 0
zero_under true d v = zero_both d v
zero_under false d v = refl

-- a linked word below a linked number: together they are a linked number
linked_cons : (n : ℕ) (over : Bool → Bool → Bool → Bool) (f : Flags) (s d S D : ℕ) (r R : Left) → s < radix → d < radix
    → Linked 32 f (over (top 32 s) (top 32 d) (top 32 r.result)) r
    → Linked (32 * suc n) r.flags
    (over (top (32 * suc n) S) (top (32 * suc n) D) (top (32 * suc n) R.result)) R
    → Linked (32 * suc (suc n)) f
    (over (top (32 * suc (suc n)) (s + radix * S)) (top (32 * suc (suc n)) (d + radix * D))
    (top (32 * suc (suc n)) (r.result + radix * R.result)))
    (record { result = r.result + radix * R.result; flags = R.flags })
linked_cons n over f s d S D r R hs hd w t =
    record {
      below = omega (arith, w.below, t.below, modulus_suc (suc n));
      sign = t.sign ∙ top_cons n r.result R.result w.below;
      zero = t.zero ∙ ap (λ (z : Bool). z && eqb R.result 0) w.zero ∙ zero_under f.z r.result R.result;
      overflow =
          t.overflow
          ∙ cc (top_cons n s S hs, top_cons n d D hd, top_cons n r.result R.result w.below);
      carry = t.carry;
    }

-- ---- the whole number, for one operation g

module _ (g : Word) where
  pub low_length : (ps : Pairs) (f : Flags) → length (low g ps f).words ≡ length ps
  low_length [] f = refl
  low_length (p ∷ ps) f = ap suc (low_length ps _)

  pub high_length : (ps : Pairs) (f : Flags) → length (high g ps f).words ≡ length ps
  high_length [] f = refl
  high_length (p ∷ ps) f = ap suc (high_length ps f)

  module _ (below : (s d : ℕ) (f : Flags) → s < radix → d < radix → (g s d f).result < radix) where
    pub low_below : (ps : Pairs) (f : Flags) → Bounded ps → AllBelow (low g ps f).words
    low_below [] f h = tt
    low_below (p ∷ ps) f h = (below _ _ _ h.0 h.1, low_below ps _ h.2)

    pub high_below : (ps : Pairs) (f : Flags) → Bounded ps → AllBelow (high g ps f).words
    high_below [] f h = tt
    high_below (p ∷ ps) f h = (below _ _ _ h.0 h.1, high_below ps f h.2)

  module _ (β : Balance) (carry : Flags → ℕ) where
    -- lowest first: a word takes the carry in and leaves the carry out
    module _ (h : (s d : ℕ) (f : Flags) → s < radix → d < radix → Kept β radix (carry f) s d (g s d f).result (carry (g s d f).flags))
      where
        low_keeps : (ps : Pairs) (f : Flags) → Bounded ps
            → Kept β (modulus (length ps)) (carry f) (value (sources ps)) (value (targets ps)) (value (low g ps f).words)
            (carry (low g ps f).flags)
        low_keeps [] f b = omega arith
        low_keeps (p ∷ ps) f b =
            rw (modulus_suc (length ps)) (link β _ _ _ _ _ _ _ _ _ _ (h _ _ f b.0 b.1) (low_keeps ps _ b.2))

        pub low_kept : (ps : Pairs) (f : Flags) (n S D : ℕ) → Are ps n S D
            → Kept β (modulus n) (carry f) S D (value (low g ps f).words) (carry (low g ps f).flags)
        low_kept ps f n S D r =
            subst₃ (λ (n S D : ℕ). Kept β (modulus n) (carry f) S D (value (low g ps f).words) (carry (low g ps f).flags)) r.size
            r.source r.goal (low_keeps ps f r.bounded)

    -- highest first: the other way round
    module _ (h : (s d : ℕ) (f : Flags) → s < radix → d < radix → Kept β radix (carry (g s d f).flags) s d (g s d f).result (carry f))
      where
        high_keeps : (ps : Pairs) (f : Flags) → Bounded ps
            → Kept β (modulus (length ps)) (carry (high g ps f).flags) (value (sources ps)) (value (targets ps))
            (value (high g ps f).words) (carry f)
        high_keeps [] f b = omega arith
        high_keeps (p ∷ ps) f b =
            rw (modulus_suc (length ps)) (link β _ _ _ _ _ _ _ _ _ _ (h _ _ _ b.0 b.1) (high_keeps ps f b.2))

        pub high_kept : (ps : Pairs) (f : Flags) (n S D : ℕ) → Are ps n S D
            → Kept β (modulus n) (carry (high g ps f).flags) S D (value (high g ps f).words) (carry f)
        high_kept ps f n S D r =
            subst₃ (λ (n S D : ℕ). Kept β (modulus n) (carry (high g ps f).flags) S D (value (high g ps f).words) (carry f)) r.size
            r.source r.goal (high_keeps ps f r.bounded)

  -- what each word's flags keep, the last word's keep
  pub low_flags : (P : Flags → Type 0) → ((s d : ℕ) (f : Flags) → s < radix → d < radix → P f → P (g s d f).flags)
      → (ps : Pairs) (f : Flags) → Bounded ps → P f → P (low g ps f).flags
  low_flags P h [] f b t = t
  low_flags P h (p ∷ ps) f b t = low_flags P h ps _ b.2 (h _ _ f b.0 b.1 t)

  -- a chain of words that are linked is linked: w words of 32 bits are one number of 32w
  module _ (over : Bool → Bool → Bool → Bool)
      (linked : (s d : ℕ) (f : Flags) → s < radix → d < radix
      → Linked 32 f (over (top 32 s) (top 32 d) (top 32 (g s d f).result)) (g s d f))
    where
      low_links : (p : ℕ × ℕ) (ps : Pairs) (f : Flags) → Bounded (p ∷ ps)
          → Linked (32 * suc (length ps)) f
          (over (top (32 * suc (length ps)) (value (sources (p ∷ ps)))) (top (32 * suc (length ps)) (value (targets (p ∷ ps))))
          (top (32 * suc (length ps)) (value (low g (p ∷ ps) f).words)))
          (record { result = value (low g (p ∷ ps) f).words; flags = (low g (p ∷ ps) f).flags })
      low_links p [] f b = simp add-zero (linked p.0 p.1 f b.0 b.1)
      low_links p (q ∷ ps) f b =
          linked_cons (length ps) over f p.0 p.1 _ _ (g p.0 p.1 f) _ b.0 b.1 (linked p.0 p.1 f b.0 b.1)
          (low_links q ps (g p.0 p.1 f).flags b.2)

      pub low_linked : (p : ℕ × ℕ) (ps : Pairs) (f : Flags) (n S D : ℕ) → Are (p ∷ ps) n S D
          → Linked (32 * n) f (over (top (32 * n) S) (top (32 * n) D) (top (32 * n) (value (low g (p ∷ ps) f).words)))
          (record { result = value (low g (p ∷ ps) f).words; flags = (low g (p ∷ ps) f).flags })
      low_linked p ps f n S D r =
          subst₃ (λ (n S D : ℕ). Linked (32 * n) f (over (top (32 * n) S) (top (32 * n) D) (top (32 * n) (value (low g (p ∷ ps) f).words)))
          (record { result = value (low g (p ∷ ps) f).words; flags = (low g (p ∷ ps) f).flags })) r.size r.source r.goal
          (low_links p ps f r.bounded)
