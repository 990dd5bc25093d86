-- Laws of the table of operations. Assumes nothing.
--     stands     the number of an operation is a place of the table, and the row there is the operation's
--     places     the place of each row is its operation's number
--     each_row   a test that passes at all rows and their places passes at each operation's
--     missed     a number that is none of the places names none
use Rattle.std.proofs.Common.{◌≡◌, ℕ, zero, suc, ◌+◌, ◌<◌, ◌≤◌, Bool, true, false, ◌&&◌, eqb, Some, None, List, [], ◌∷◌, length, get_or, slice_get, sym, refl, ◌∙◌, le_of_suc-le-suc, not-suc-le-zero, add-zero, add-suc, suc-add, zero-add, arith, lit<}
use mathlib.Core.Bool.{false≢true}
use Rattle.std.proofs.lemmas.Grind.{common_steps}
use Rattle.std.proofs.lemmas.Option.{gets}
use Rattle.alu.specs.declared.shift_rotate.ShiftOp.TheVariants.{Asl, Asr, Lsl, Lsr, Rol, Ror, Roxl, Roxr}
use Rattle.alu.specs.declared.bit_manip.BitOp.TheVariants.{Btst, Bset, Bclr, Bchg}
use Rattle.step.specs.declared.forms.TwoOp.TheVariants.{Add, Sub, Cmp, Addx, Subx}
use Rattle.step.specs.declared.forms.AddressOp.TheVariants.{Adda, Suba, Cmpa}
use Rattle.step.specs.declared.forms.QuickOp.TheVariants.{Addq, Subq}
use Rattle.step.specs.declared.forms.OneOp.TheVariants.{Clr, Neg, Negx, Not, Ext}
use Rattle.step.specs.declared.forms.Operation.{Operation}
use Rattle.step.specs.declared.forms.Operation.TheVariants.{Two, Address, Quick, QuickAddress, One, Shift, Bit, Chk}
use Rattle.step.specs.Operations.{Row, row, operations, operation_at, operation_number}

abbrev pub Stands : Operation → Type 0
Stands o = (operation_number o < length operations) × (operation_at (operation_number o) ≡ Some o)

pub stands : (o : Operation) → Stands o
stands (Two Add) = (lit< tt, refl)
stands (Two Sub) = (lit< tt, refl)
stands (Two Cmp) = (lit< tt, refl)
stands (Two Addx) = (lit< tt, refl)
stands (Two Subx) = (lit< tt, refl)
stands (Address Adda) = (lit< tt, refl)
stands (Address Suba) = (lit< tt, refl)
stands (Address Cmpa) = (lit< tt, refl)
stands (Quick Addq) = (lit< tt, refl)
stands (Quick Subq) = (lit< tt, refl)
stands (QuickAddress Addq) = (lit< tt, refl)
stands (QuickAddress Subq) = (lit< tt, refl)
stands (One Clr) = (lit< tt, refl)
stands (One Neg) = (lit< tt, refl)
stands (One Negx) = (lit< tt, refl)
stands (One Not) = (lit< tt, refl)
stands (One Ext) = (lit< tt, refl)
stands (Shift Asl) = (lit< tt, refl)
stands (Shift Asr) = (lit< tt, refl)
stands (Shift Lsl) = (lit< tt, refl)
stands (Shift Lsr) = (lit< tt, refl)
stands (Shift Rol) = (lit< tt, refl)
stands (Shift Ror) = (lit< tt, refl)
stands (Shift Roxl) = (lit< tt, refl)
stands (Shift Roxr) = (lit< tt, refl)
stands (Bit Btst) = (lit< tt, refl)
stands (Bit Bset) = (lit< tt, refl)
stands (Bit Bclr) = (lit< tt, refl)
stands (Bit Bchg) = (lit< tt, refl)
stands Chk = (lit< tt, refl)

-- ---- tests over the rows

both : (a b : Bool) → a && b ≡ true → (a ≡ true) × (b ≡ true)
both true b e = (refl, e)
both false b e = absurd (false≢true e)

-- the test f passes at each row of the list and its place, counted from i
abbrev pub every : (ℕ → Row → Bool) → ℕ → List Row → Bool
every f i [] = true
every f i (x ∷ xs) = f i x && every f (suc i) xs

from : (f : ℕ → Row → Bool) (xs : List Row) (i : ℕ) (d : Row) → every f i xs ≡ true → (k : ℕ) → k < length xs → f (i + k) (get_or xs k d) ≡ true
from f [] i d t k h = absurd (not-suc-le-zero h)
from f (x ∷ xs) i d t zero h = rw (add-zero i) (both (f i x) (every f (suc i) xs) t).0
from f (x ∷ xs) i d t (suc k) h =
    rw (add-suc i k ∙ sym (suc-add i k)) (from f xs (suc i) d (both (f i x) (every f (suc i) xs) t).1 k (le_of_suc-le-suc h))

-- and the other way round: the place of each row is its operation's number
pub places : every (λ k r. eqb (operation_number r.operation) k) 0 operations ≡ true
places = refl

pub each_row : (f : ℕ → Row → Bool) → every f 0 operations ≡ true → (o : Operation) → f (operation_number o) (get_or operations (operation_number o) (row Chk "")) ≡ true
each_row f t o = rw (zero-add (operation_number o)) at (from f operations 0 (row Chk "") t (operation_number o) (stands o).0)

-- ---- a number that names no row

-- what a `match` on the m numbers from k on leaves to its last arm: T, and n is none of them
abbrev pub Missed : Type 0 → (m k n : ℕ) → Type 0
Missed T zero k n = T
Missed T (suc m) k n = Missed (T × (n ≡ k → ⊥)) m (suc k) n

above : {T : Type 0} (m k n : ℕ) → (T → k ≤ n) → Missed T m k n → T × (k + m ≤ n)
above zero k n h t = (t, omega (arith, h t))
above {T = T} (suc m) k n h t =
    let up : T × (n ≡ k → ⊥) → suc k ≤ n = λ p. omega (arith, h p.0, p.1) in
    let below = above m (suc k) n up t in
    (below.0.0, omega (arith, below.1))

-- so it is past the table
pub missed : {A : Type 0} (table : List A) (n : ℕ) → Missed (Unit {0}) (length table) 0 n → None ≡ slice_get table n
missed table n t =
    let past : length table ≤ n = omega (arith, (above (length table) 0 n (λ u. omega arith) t).1) in
    grind (arith, common_steps, gets)
