-- What `answer` and `alu_call` do, over any operation, so that nothing unfolds: the arguments read, the operation done, its answer packed.
-- Assumes nothing.
use Prim.Native.Nat.{ℕ}
use mathlib.Core.Path.{◌≡◌, refl, ap, ◌∙◌}
use mathlib.Core.Bool.{cond}
use mathlib.Core.List.{List, [], ◌∷◌}
use borrow.Author.Tests.{ne_eqb}
use Rattle.alu.specs.declared.types.Size.{Size}
use Rattle.alu.specs.declared.types.Flags.{Flags}
use Rattle.alu.specs.declared.types.Verdict.TheVariants.{NoSuchSize}
use Rattle.alu.specs.declared.types.Checked.{Checked}
use Rattle.alu.specs.Answers.{refused}
use Rattle.std.specs.Prelude.{Option}
use Rattle.calls.specs.Packed.{Row, number_in, done, chosen, answer_of, packed, plain}

-- the operation whose number is `key`
pub answered :
    (op key : ℕ) (size : Size) (s d : ℕ) {r : ℕ} {k : Checked} {flags flags' : Flags} →
    op ≡ key → flags ≡ flags' → k ≡ answer_of key size s d flags → r ≡ packed k → r ≡ packed (answer_of op size s d flags')
answered op key size s d is f gives gave = rw is (gave ∙ ap packed (gives ∙ ap (answer_of key size s d) f))

-- what a `match` on all numbers of a table leaves to its last arm: T and none of them
abbrev pub Missed : Type 0 → List Row → (op : ℕ) → Type 0
Missed T [] op = T
Missed T (row ∷ rest) op = Missed (T × (op ≡ number_in row → ⊥)) rest op

-- none of them is chosen
pub missed :
    {T : Type 0} (rows : List Row) (op : ℕ) (size : Size) (s d : ℕ) (f : Flags) →
    Missed T rows op → T × (chosen rows op size s d f ≡ plain (refused NoSuchSize f))
unfolding chosen
missed [] op size s d f t = (t, refl)
missed (row ∷ rest) op size s d f t =
    let below = missed rest op size s d f t in
    (below.0.0, ap (λ b. cond b (done row size s d f) (chosen rest op size s d f)) (ne_eqb op (number_in row) below.0.1) ∙ below.1)

-- a size by its number, which may name none
pub called :
    (of : Option Size → Checked) {r : ℕ} {size size' found : Option Size} → found ≡ size → found ≡ size' → r ≡ packed (of size) → r ≡ packed (of size')
called of is z gave = rw (← z, is) gave
