-- The nine verbs, from what the long operations promise. A verb is a word operation, a balance that each word keeps, and the flags that its first step
-- starts from; the laws of chains and registers then hold of all of them. Assumes nothing.
use mathlib.Core.Path.{◌≡◌, refl, ap, ap₂, ◌∙◌, subst⁻¹}
use mathlib.Core.Bool.{Bool, true, false, true≢false}
use mathlib.Core.List.{List, [], ◌∷◌}
use Prim.Native.Nat.{ℕ, ◌+◌, ◌*◌, ◌<◌}
use native.Mathlib.Omega.{arith}
use lib.ListN.{length}
use lib.Seq.{get_or-set_same, get_or-set_other, set-set}
use Rattle.alu.specs.declared.types.Flags.{Flags}
use Rattle.alu.specs.declared.shift_rotate.ShiftOp.TheVariants.{Roxl, Roxr}
use Rattle.alu.specs.Bits.{top, digit}
use Rattle.step.specs.declared.registers.State.{State}
use Rattle.step.specs.declared.forms.TwoOp.TheVariants as TwoOp
use Rattle.step.specs.declared.forms.OneOp.TheVariants as OneOp
use Rattle.step.proofs.Promises.{Left, Alu, Promises, register, put, with_x, fresh}
use Rattle.step.proofs.Leading.{executed}
use Rattle.recipes.specs.declared.types.Verb.{Verb}
use Rattle.recipes.specs.declared.types.Verb.TheVariants.{Clear, Copy, Add, Sub, Neg, Not, Halve, Down, Up}
use Rattle.recipes.specs.declared.lines.Act.TheVariants.{Two}
use Rattle.recipes.specs.Listing.{step_of, clr_step, highest_first}
use Rattle.recipes.specs.Rule.{radix}
use Rattle.recipes.proofs.Chain.{Word, Balance, Kept}
use Rattle.recipes.proofs.Registers.{first_at, other_at}

-- ---- what a verb is

abbrev balance : (ls lt lr rs rt rr : ℕ) → Balance
balance ls lt lr rs rt rr = record { ls = ls; lt = lt; lr = lr; rs = rs; rt = rt; rr = rr }

-- source, target and result on the left; on the right. With the carry in on the left, and the carry out times 2^32 on the right.
abbrev pub balance_of : Verb → Balance
balance_of Clear = balance 0 0 1 0 0 0
balance_of Copy = balance 0 0 1 1 0 0
balance_of Add = balance 1 1 0 0 0 1
balance_of Sub = balance 1 0 1 0 1 0
balance_of Neg = balance 0 1 1 0 0 0
balance_of Not = balance 0 1 1 0 0 0
balance_of Halve = balance 0 0 2 0 1 0
balance_of Down = balance 0 0 2 0 1 0
balance_of Up = balance 0 2 0 0 0 1

abbrev pub carry_of : Verb → Flags → ℕ
carry_of Clear f = 0
carry_of Copy f = 0
carry_of Add f = digit f.x
carry_of Sub f = digit f.x
carry_of Neg f = digit f.x
carry_of Not f = 1
carry_of Halve f = digit f.x
carry_of Down f = digit f.x
carry_of Up f = digit f.x

-- the flags from which the first step is the chain's own
abbrev pub start_of : Verb → ℕ → Flags → Flags
start_of Clear d f = f
start_of Copy d f = f
start_of Add d f = fresh f
start_of Sub d f = fresh f
start_of Neg d f = fresh f
start_of Not d f = f
start_of Halve d f = with_x (top 32 d) f
start_of Down d f = with_x false f
start_of Up d f = fresh f

-- copy reads another register than it clears
abbrev pub Ok : Verb → ℕ → ℕ → Type 0
Ok v p q = v ≡ Copy → p ≡ q → ⊥

module _ (m : Alu) where
  abbrev pub word_of : Verb → Word
  word_of Clear s d f = m.one OneOp.Clr d f
  word_of Copy s d f = m.two TwoOp.Add s (m.one OneOp.Clr d f).result (m.one OneOp.Clr d f).flags
  word_of Add s d f = m.two TwoOp.Addx s d f
  word_of Sub s d f = m.two TwoOp.Subx s d f
  word_of Neg s d f = m.one OneOp.Negx d f
  word_of Not s d f = m.one OneOp.Not d f
  word_of Halve s d f = m.shift Roxr d f
  word_of Down s d f = m.shift Roxr d f
  word_of Up s d f = m.shift Roxl d f

-- ---- one word

module _ (m : Alu) (say : Promises m) where
  -- copy: the source, and X clear
  copied_sum : (s d : ℕ) (f : Flags) → s < radix → s ≡ (word_of m Copy s d f).result + radix * digit (word_of m Copy s d f).flags.x
  copied_sum s d f h =
      let e : word_of m Copy s d f ≡ m.two TwoOp.Addx s 0 (fresh (m.one OneOp.Clr d f).flags) =
      ap (λ (z : ℕ). m.two TwoOp.Add s z (m.one OneOp.Clr d f).flags) (say.clr d f) ∙ say.add s 0 (m.one OneOp.Clr d f).flags in
      subst⁻¹ (λ (r : Left). s ≡ r.result + radix * digit r.flags.x) e
      (omega (arith, say.addx_sum s 0 (fresh (m.one OneOp.Clr d f).flags) h (omega arith)))

  pub copied_x : (s d : ℕ) (f : Flags) → s < radix → (word_of m Copy s d f).flags.x ≡ false
  copied_x s d f h = go (word_of m Copy s d f).flags.x refl
    where
      go : (b : Bool) → (word_of m Copy s d f).flags.x ≡ b → (word_of m Copy s d f).flags.x ≡ false
      go true e = absurd (omega (arith, copied_sum s d f h, ap digit e))
      go false e = e

  copied : (s d : ℕ) (f : Flags) → s < radix → (word_of m Copy s d f).result ≡ s
  copied s d f h = omega (arith, copied_sum s d f h, ap digit (copied_x s d f h))

  copy_does : (p q : ℕ) (s : State) → (p ≡ q → ⊥) → q < length s.d
      → executed m (clr_step q ∷ step_of (Two TwoOp.Add) p q ∷ []) s ≡ put s q (word_of m Copy (register s p) (register s q) s.flags)
  copy_does p q s apart h =
      let z : Left = m.one OneOp.Clr (register s q) s.flags in
      ap₂ {C = State} (λ (a b : ℕ). put (put s q z) q (m.two TwoOp.Add a b z.flags)) (get_or-set_other s.d q p z.result 0 apart)
      (get_or-set_same s.d q z.result 0 h)
      ∙ ap (λ (l : List ℕ). record { d = l; a = s.a; flags = (word_of m Copy (register s p) (register s q) s.flags).flags })
      (set-set s.d q z.result _)

  -- the steps do the word operation
  pub next_does : (v : Verb) (p q : ℕ) (s : State) → Ok v p q → q < length s.d
      → executed m (other_at v p q) s ≡ put s q (word_of m v (register s p) (register s q) s.flags)
  next_does Clear p q s ok h = refl
  next_does Copy p q s ok h = copy_does p q s (ok refl) h
  next_does Add p q s ok h = refl
  next_does Sub p q s ok h = refl
  next_does Neg p q s ok h = refl
  next_does Not p q s ok h = refl
  next_does Halve p q s ok h = refl
  next_does Down p q s ok h = refl
  next_does Up p q s ok h = refl

  pub first_does : (v : Verb) (p q : ℕ) (s : State) → Ok v p q → q < length s.d → ((i : ℕ) → register s i < radix)
      → executed m (first_at v p q) s ≡ put s q (word_of m v (register s p) (register s q) (start_of v (register s q) s.flags))
  first_does Clear p q s ok h w = refl
  first_does Copy p q s ok h w = copy_does p q s (ok refl) h
  first_does Add p q s ok h w = ap (put s q) (say.add _ _ _)
  first_does Sub p q s ok h w = ap (put s q) (say.sub _ _ _)
  first_does Neg p q s ok h w = ap (put s q) (say.neg _ _)
  first_does Not p q s ok h w = refl
  first_does Halve p q s ok h w = ap (put s q) (say.asr _ _)
  first_does Down p q s ok h w = ap (put s q) (say.lsr _ _)
  first_does Up p q s ok h w = ap (put s q) (say.lsl _ _)

  pub word_below : (v : Verb) (s d : ℕ) (f : Flags) → s < radix → d < radix → (word_of m v s d f).result < radix
  word_below Clear s d f hs hd = omega (arith, say.clr d f)
  word_below Copy s d f hs hd = omega (arith, copied s d f hs)
  word_below Add s d f hs hd = (say.addx s d f).below
  word_below Sub s d f hs hd = (say.subx s d f).below
  word_below Neg s d f hs hd = (say.negx d f).below
  word_below Not s d f hs hd = omega (arith, say.not d f hd)
  word_below Halve s d f hs hd = say.roxr d f
  word_below Down s d f hs hd = say.roxr d f
  word_below Up s d f hs hd = say.roxl d f

  -- and it keeps the balance: lowest first from the flags before to those after, highest first the other way round
  pub rise_kept : (v : Verb) → highest_first v ≡ false → (s d : ℕ) (f : Flags) → s < radix → d < radix
      → Kept (balance_of v) radix (carry_of v f) s d (word_of m v s d f).result (carry_of v (word_of m v s d f).flags)
  rise_kept Clear e s d f hs hd = omega (arith, say.clr d f)
  rise_kept Copy e s d f hs hd = omega (arith, copied s d f hs)
  rise_kept Add e s d f hs hd = omega (arith, say.addx_sum s d f hs hd)
  rise_kept Sub e s d f hs hd = omega (arith, say.subx_sum s d f hs hd)
  rise_kept Neg e s d f hs hd = omega (arith, say.negx_sum d f hd)
  rise_kept Not e s d f hs hd = omega (arith, say.not d f hd)
  rise_kept Halve e s d f hs hd = absurd (true≢false e)
  rise_kept Down e s d f hs hd = absurd (true≢false e)
  rise_kept Up e s d f hs hd = omega (arith, say.roxl_sum d f hd)

  pub fall_kept : (s d : ℕ) (f : Flags) → s < radix → d < radix
      → Kept (balance_of Down) radix (digit (m.shift Roxr d f).flags.x) s d (m.shift Roxr d f).result (digit f.x)
  fall_kept s d f hs hd = omega (arith, say.roxr_sum d f hd)
