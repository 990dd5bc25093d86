-- The table of conditions: its sixteen words are those of the Manual's formulas, tested whole (`table`), so that the bit of a word at a setting of the flags is
-- the formula (`table_holds`); and a row's place is its condition's number (`condition_places`). Assumes nothing.
use mathlib.Core.Path.{◌≡◌, refl, sym, ap, ◌∙◌}
use mathlib.Core.Bool.{Bool, true, false}
use mathlib.Core.List.{List, [], ◌∷◌, map}
use Prim.Native.Nat.{ℕ, zero, suc, ◌+◌, ◌*◌, ◌/◌, ◌%◌, ◌^◌, ◌<◌}
use native.Mathlib.Omega.{arith}
use native.Mathlib.Nat.{div-div-eq-div-mul, zero-div}
use borrow.Author.Tests.{eq-eqb, ne_eqb}
use lib.Dec.{eqb, lit<}
use lib.ListN.{length, get_or}
use Rattle.std.specs.Prelude.{Ok}
use Rattle.alu.specs.declared.types.Flags.{Flags}
use Rattle.alu.specs.declared.conditions.Condition.{Condition}
use Rattle.alu.specs.declared.conditions.Condition.TheVariants.{T, F, Hi, Ls, Cc, Cs, Ne, Eq, Vc, Vs, Pl, Mi, Ge, Lt, Gt, Le}
use Rattle.alu.specs.Bits.{digit}
use Rattle.alu.specs.ConditionCodes.{ccr_of}
use Rattle.alu.proofs.Bounds.{digit_le}
use Rattle.alu.specs.Conditions.{formula, condition_holds, ConditionRow, conditions, condition_at, condition_number}

-- a formula's values at the sixteen settings of N, Z, V and C, and the word that has them as bits, lowest first
abbrev values_of : ((n z v c : Bool) → Bool) → List Bool
values_of g =
    g false false false false ∷
    g false false false true ∷
    g false false true false ∷
    g false false true true ∷
    g false true false false ∷
    g false true false true ∷
    g false true true false ∷
    g false true true true ∷
    g true false false false ∷
    g true false false true ∷
    g true false true false ∷
    g true false true true ∷
    g true true false false ∷
    g true true false true ∷
    g true true true false ∷
    g true true true true ∷ []

abbrev word_of : List Bool → ℕ
word_of [] = 0
word_of (b ∷ bs) = digit b + 2 * word_of bs

-- bit k of a word is its k-th value
lowest : (b : Bool) (m : ℕ) → eqb ((digit b + 2 * m) % 2) 1 ≡ b
lowest true m = eq-eqb ((1 + 2 * m) % 2) 1 (omega arith)
lowest false m = ne_eqb ((0 + 2 * m) % 2) 1 (λ e. omega arith)

halved : (b : Bool) (m : ℕ) → (digit b + 2 * m) / 2 ≡ m
halved true m = omega arith
halved false m = omega arith

bit_of : (bs : List Bool) (k : ℕ) → eqb (word_of bs / 2 ^ k % 2) 1 ≡ get_or bs k false
bit_of [] k = ap (λ (q : ℕ). eqb (q % 2) 1) (zero-div (2 ^ k))
bit_of (b ∷ bs) zero =
    let e : (digit b + 2 * word_of bs) / 1 ≡ digit b + 2 * word_of bs = omega arith in ap (λ (q : ℕ). eqb (q % 2) 1) e ∙ lowest b (word_of bs)
bit_of (b ∷ bs) (suc k) =
    let w : ℕ = digit b + 2 * word_of bs in
    let e : 2 ^ suc k ≡ 2 * 2 ^ k = omega arith in
    ap (λ (q : ℕ). eqb (q % 2) 1)
    (ap (λ (m : ℕ). w / m) e ∙ sym (div-div-eq-div-mul w 2 (2 ^ k)) ∙ ap (λ (m : ℕ). m / 2 ^ k) (halved b (word_of bs)))
    ∙ bit_of bs k

-- the code's table, and what the formulas make of the rows
abbrev words : List ℕ
words = 0xffff ∷ 0x0000 ∷ 0x0505 ∷ 0xfafa ∷ 0x5555 ∷ 0xaaaa ∷ 0x0f0f ∷ 0xf0f0 ∷ 0x3333 ∷ 0xcccc ∷ 0x00ff ∷ 0xff00 ∷ 0xcc33 ∷ 0x33cc ∷ 0x0c03 ∷ 0xf3fc ∷ []

abbrev words_of : List ConditionRow → List ℕ
words_of rows = map (λ (r : ConditionRow). word_of (values_of (formula r.condition))) rows

-- all sixteen words at all sixteen settings, at once
pub table : words ≡ words_of conditions
table = refl

listed : (k : Condition) → get_or (words_of conditions) (condition_number k) 0 ≡ word_of (values_of (formula k))
listed T = refl
listed F = refl
listed Hi = refl
listed Ls = refl
listed Cc = refl
listed Cs = refl
listed Ne = refl
listed Eq = refl
listed Vc = refl
listed Vs = refl
listed Pl = refl
listed Mi = refl
listed Ge = refl
listed Lt = refl
listed Gt = refl
listed Le = refl

-- the setting is the lower four bits of the flags' byte, whatever X is
at_setting : (g : (n z v c : Bool) → Bool) (f : Flags) → get_or (values_of g) (ccr_of f % 16) false ≡ g f.n f.z f.v f.c
at_setting g f =
    let e : ccr_of f % 16 ≡ digit f.n * 8 + digit f.z * 4 + digit f.v * 2 + digit f.c = four f.x f.n f.z f.v f.c in
    ap (λ (k : ℕ). get_or (values_of g) k false) e ∙ go f.n f.z f.v f.c
  where
    four : (x n z v c : Bool) → (digit x * 16 + digit n * 8 + digit z * 4 + digit v * 2 + digit c) % 16 ≡ digit n * 8 + digit z * 4 + digit v * 2 + digit c
    four x n z v c = omega (arith, digit_le n, digit_le z, digit_le v, digit_le c)

    go : (n z v c : Bool) → get_or (values_of g) (digit n * 8 + digit z * 4 + digit v * 2 + digit c) false ≡ g n z v c
    go false false false false = refl
    go false false false true = refl
    go false false true false = refl
    go false false true true = refl
    go false true false false = refl
    go false true false true = refl
    go false true true false = refl
    go false true true true = refl
    go true false false false = refl
    go true false false true = refl
    go true false true false = refl
    go true false true true = refl
    go true true false false = refl
    go true true false true = refl
    go true true true false = refl
    go true true true true = refl

-- the bit that stands for a condition at a setting is the formula
pub table_holds : (k : Condition) (f : Flags) → eqb (get_or words (condition_number k) 0 / 2 ^ (ccr_of f % 16) % 2) 1 ≡ condition_holds k f
table_holds k f =
    ap (λ (w : ℕ). eqb (w / 2 ^ (ccr_of f % 16) % 2) 1) (ap (λ (ws : List ℕ). get_or ws (condition_number k) 0) table ∙ listed k)
    ∙ bit_of (values_of (formula k)) (ccr_of f % 16) ∙ at_setting (formula k) f

-- the number of a condition is a place of the table, and the row there is the condition's
pub condition_places : (k : Condition) → (condition_number k < length conditions) × (condition_at (condition_number k) ≡ Ok k)
condition_places T = (lit< tt, refl)
condition_places F = (lit< tt, refl)
condition_places Hi = (lit< tt, refl)
condition_places Ls = (lit< tt, refl)
condition_places Cc = (lit< tt, refl)
condition_places Cs = (lit< tt, refl)
condition_places Ne = (lit< tt, refl)
condition_places Eq = (lit< tt, refl)
condition_places Vc = (lit< tt, refl)
condition_places Vs = (lit< tt, refl)
condition_places Pl = (lit< tt, refl)
condition_places Mi = (lit< tt, refl)
condition_places Ge = (lit< tt, refl)
condition_places Lt = (lit< tt, refl)
condition_places Gt = (lit< tt, refl)
condition_places Le = (lit< tt, refl)
