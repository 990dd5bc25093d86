-- The sixteen conditions of the Manual's conditional tests: document 02, item 5. They are one list of rows, and the place of a row is the number of its
-- condition (`condition_places` of proofs/ConditionTable). Assumes nothing.
use Rattle.std.specs.Prelude.{ℕ, Bool, true, false, not, ◌&&◌, ◌||◌, List, [], ◌∷◌, map, get_or, Result, Ok, Err}
use Prim.Native.String.{String}
use Rattle.alu.specs.declared.types.Flags.{Flags}
use Rattle.alu.specs.declared.conditions.Condition.{Condition}
use Rattle.alu.specs.declared.conditions.NoSuchCondition.{NoSuchCondition}
use Rattle.alu.specs.declared.conditions.Condition.TheVariants.{T, F, Hi, Ls, Cc, Cs, Ne, Eq, Vc, Vs, Pl, Mi, Ge, Lt, Gt, Le}

-- the Manual's formulas
abbrev pub formula : Condition → (n z v c : Bool) → Bool
formula T n z v c = true
formula F n z v c = false
formula Hi n z v c = not c && not z
formula Ls n z v c = c || z
formula Cc n z v c = not c
formula Cs n z v c = c
formula Ne n z v c = not z
formula Eq n z v c = z
formula Vc n z v c = not v
formula Vs n z v c = v
formula Pl n z v c = not n
formula Mi n z v c = n
formula Ge n z v c = n && v || not n && not v
formula Lt n z v c = n && not v || not n && v
formula Gt n z v c = n && v && not z || not n && not v && not z
formula Le n z v c = z || n && not v || not n && v

-- X is not looked at
abbrev pub condition_holds : Condition → Flags → Bool
condition_holds k f = formula k f.n f.z f.v f.c

-- ---- their names and numbers

pub record ConditionRow : Type 0 where
  pub condition : Condition
  pub name : String

abbrev pub condition_row : Condition → String → ConditionRow
condition_row condition name = record { condition = condition; name = name }

abbrev pub conditions : List ConditionRow
conditions =
    condition_row T "T" ∷
    condition_row F "F" ∷
    condition_row Hi "HI" ∷
    condition_row Ls "LS" ∷
    condition_row Cc "CC" ∷
    condition_row Cs "CS" ∷
    condition_row Ne "NE" ∷
    condition_row Eq "EQ" ∷
    condition_row Vc "VC" ∷
    condition_row Vs "VS" ∷
    condition_row Pl "PL" ∷
    condition_row Mi "MI" ∷
    condition_row Ge "GE" ∷
    condition_row Lt "LT" ∷
    condition_row Gt "GT" ∷
    condition_row Le "LE" ∷ []

-- the condition of a number, if there is a row of that place
abbrev pub condition_at : ℕ → Result Condition NoSuchCondition
condition_at n = get_or (map (λ (r : ConditionRow). Ok r.condition) conditions) n (Err (record { number = n }))

-- the place of a condition's row
abbrev pub condition_number : Condition → ℕ
condition_number T = 0
condition_number F = 1
condition_number Hi = 2
condition_number Ls = 3
condition_number Cc = 4
condition_number Cs = 5
condition_number Ne = 6
condition_number Eq = 7
condition_number Vc = 8
condition_number Vs = 9
condition_number Pl = 10
condition_number Mi = 11
condition_number Ge = 12
condition_number Lt = 13
condition_number Gt = 14
condition_number Le = 15

-- its name. (Each has a row, so that the one past the table is never met)
abbrev pub condition_name : Condition → String
condition_name c = (get_or conditions (condition_number c) (condition_row T "")).name
