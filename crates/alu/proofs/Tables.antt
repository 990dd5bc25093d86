-- Tables that go by number: what a `match` on the places of a table leaves to its last arm. Assumes nothing.
--     missed   a number that is none of the places names nothing there
use Prim.Native.Nat.{ℕ, zero, suc, ◌+◌, ◌≤◌}
use mathlib.Core.Path.{◌≡◌, sym}
use mathlib.Core.List.{List}
use native.Mathlib.Omega.{arith}
use lib.ListN.{length, get_or, get_or-eq_default}

-- what a `match` on the m numbers from k on leaves to its last arm: T, and n is none of them
abbrev pub Missed : Type 0 → (m k n : ℕ) → Type 0
Missed T zero k n = T
Missed T (suc m) k n = Missed (T × (n ≡ k → ⊥)) m (suc k) n

above : {T : Type 0} (m k n : ℕ) → (T → k ≤ n) → Missed T m k n → T × (k + m ≤ n)
above zero k n h t = (t, omega (arith, h t))
above {T = T} (suc m) k n h t =
    let up : T × (n ≡ k → ⊥) → suc k ≤ n = λ p. omega (arith, h p.0, p.1) in
    let below = above m (suc k) n up t in
    (below.0.0, omega (arith, below.1))

-- so it is past the table
pub missed : {A : Type 0} (table : List A) (other : A) (n : ℕ) → Missed (Unit {0}) (length table) 0 n → other ≡ get_or table n other
missed table other n t =
    let past : length table ≤ n = omega (arith, (above (length table) 0 n (λ u. omega arith) t).1) in
    sym (get_or-eq_default table other past)
