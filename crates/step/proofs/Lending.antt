-- A row of registers that is lent for a lifetime, and comes back once that is over, at its last value: for walks by hand of a function's code.
-- Assumes nothing.
use Rattle.std.proofs.Common.{◌≡◌, ℕ, T as Holds, List, [], ◌∷◌, map, refl, ap, subst, map-id}
use seplogic.Ra.Ura.{Ura}
use base.Fraction.{full_share}
use package.mir.Syntax.{Ty, Lifetime, erased, mut, w32, ty_int, ty_ref, ty_array}
use package.mir.Val.{Val, WT, has_ty, vptr}
use base.Logic.{ent, sep, ex, guard}
use base.Fml.{Lft, GName, Fml, fat, fdead, flent, fres}
use types.Logic.{Logic, sem}
use types.Kit.{‵, ◌⊛◌, some, later, ◌$◌, ◌∵◌, !, qed, by, move, drop, use1, use2, use3, split, pick, check, rewrite, await, updating, now as at_once, done}
use types.SemTy.{Body}
use denote.RattleType.{RattleType}
use denote.Laws.{Is, shows}
use denote.Memory.{part_at, mem as in_memory}
use denote.Plain.{uint_vals, uint_Tells, uint_Makes, uint_Lawful}
use denote.Builtin.{u32}
use denote.Array.{Array, array_vals, Array-Tells, Array-Makes, Array-Lawful}
use denote.Ref.{MutRef}
use denote.Lend.{lends_ref, ref_back}
use denote.Steps.{only, owned, peeks}
use borrow.Table.OneValue.{part_in, part_out}

-- a row of registers: its type, and the types of the locals that hold one and refer to one
abbrev pub Regs : RattleType
Regs = Array u32 8

abbrev pub arr : Ty
arr = ty_array (ty_int w32) 8

abbrev pub ref : Ty
ref = ty_ref erased mut arr

-- its machine value
abbrev pub d_val : List ℕ → Val
d_val d = only (array_vals (uint_vals w32) d)

-- a row of registers in a record's field is the row itself
pub field_is : (d : List ℕ) → Is Regs (map (λ v. v) d) (d_val (map (λ v. v) d) ∷ []) → Is Regs d (d_val d ∷ [])
field_is d = subst (λ (xs : List ℕ). Is Regs xs (d_val xs ∷ [])) (map-id d)

module _ {M : Type 1} {𝓤 : Ura M} (𝓛 : Logic 𝓤) where
  open 𝓛 use {H, A}

  abbrev pub ref_own : Lifetime → Lft → (l o : ℕ) → GName → List ℕ → Fml
  ref_own ℓ κ l o δ d = (MutRef ℓ κ Regs).own_val (record { ref_ptr = (l, o); ghost_name = δ; now = d }) (vptr l o ∷ [])

  abbrev pub Lends : Lft → (l o : ℕ) → GName → Fml
  Lends κ l o δ = flent κ (Body (in_memory Regs) l o δ)

  pub lends : (ℓ : Lifetime) (κ : Lft) (d : List ℕ) (l o : ℕ) → Is Regs d (d_val d ∷ [])
      → ent 𝓤 (H.at full_share arr l o (d_val d)) (H.⇛ (ex 𝓤 (λ (δ : GName). sep 𝓤 (sem 𝓛 (ref_own ℓ κ l o δ d)) (sem 𝓛 (Lends κ l o δ)))))
  lends ℓ κ d l o is =
      qed 𝓛 (‵ (fat full_share arr l o (d_val d)) ∷ []) ∵ owned ! Regs (Is Regs) (Array-Makes 𝓛 u32 (uint_Makes 𝓛 w32) 8) d _ is $ move ! (1 ∷ 0 ∷ []) $
      use2 𝓛 (‵ (part_at Regs full_share d l o)) (part_in 𝓛 Regs refl full_share d l o (d_val d)) $ by ! (lends_ref 𝓛 Regs ℓ κ d l o)

  tells_regs : (d : List ℕ) (vs : List Val) → Is Regs d vs → vs ≡ d_val d ∷ []
  tells_regs = Array-Tells u32 (uint_vals w32) (uint_Tells w32) 8

  pub comes_back : (κ : Lft) (δ : GName) (d : List ℕ) (l o : ℕ)
      → ent 𝓤 (sep 𝓤 (A.dead κ) (sep 𝓤 (sem 𝓛 (Lends κ l o δ)) (A.res δ (Regs.coded.code d)))) (H.⇛ (guard 𝓤 (Is Regs d (d_val d ∷ [])) (H.at full_share arr l o (d_val d))))
  comes_back κ δ d l o =
      qed 𝓛 (‵ (fdead κ) ∷ ‵ (Lends κ l o δ) ∷ ‵ (fres δ (Regs.coded.code d)) ∷ []) ∵ updating ! $ use3 𝓛 (later (‵ (part_at Regs full_share d l o))) (ref_back 𝓛 Regs κ δ d l o) $ await ! tt $
      use1 𝓛 (some (λ (v : Val). ‵ (fat full_share arr l o v) ⊛ ‵ (Regs.own_val d (v ∷ [])))) (part_out 𝓛 Regs refl full_share d l o) $ pick ! (λ v. split ! $ move ! (1 ∷ []) $
      peeks ! Regs (Is Regs) (shows 𝓛 Regs) d (v ∷ []) (λ is. drop ! $ rewrite ! 0 (λ (u : Val). ‵ (fat full_share arr l o u)) (ap only (tells_regs d (v ∷ []) is)) refl $
      at_once ! $ check ! (subst (Is Regs d) (tells_regs d (v ∷ []) is) is) $ done !))

  pub typed_d : (d : List ℕ) → Is Regs d (d_val d ∷ []) → Holds (has_ty arr (d_val d)) × WT (d_val d)
  typed_d d p = ((Array-Lawful 𝓛 u32 (uint_Lawful 𝓛 w32) 8).typed d _ p).0
