-- What a recipe means for whole numbers: document 01, "Recipes", its table of lines. Nothing here knows of steps. A
-- subtraction of natural numbers stops at 0, and none below does: a number of w registers is below M = 2 ^ (32 w) (`number_below` of proofs/Numbers).
-- Assumes nothing.
use Rattle.std.specs.Prelude.{ℕ, zero, suc, ◌+◌, ◌-◌, ◌*◌, ◌/◌, ◌%◌, ◌^◌, Bool, false, not, cond, Option, Some, None, List, [], ◌∷◌, ◌++◌, leb, ltb, eqb, get_or, set}
use Rattle.alu.specs.declared.types.Flags.{Flags}
use Rattle.alu.specs.Bits.{top, lowest}
use Rattle.alu.specs.ConditionCodes.{add_flags, sub_flags, neg_flags}
use Rattle.step.specs.declared.registers.State.{State}
use Rattle.recipes.specs.declared.types.Verb.{Verb}
use Rattle.recipes.specs.declared.types.Verb.TheVariants.{Clear, Copy, Add, Sub, Neg, Not, Halve, Down, Up}
use Rattle.recipes.specs.declared.types.Line.{Line}
use Rattle.recipes.specs.Recipe.{target}

-- ---- numbers in registers

-- a register holds a number below this
abbrev pub radix : ℕ
radix = 2 ^ 32

-- the number that registers make, lowest first
abbrev pub value : List ℕ → ℕ
value [] = 0
value (d ∷ ds) = d + radix * value ds

-- n registers from Dp on
abbrev pub registers_from : (n p : ℕ) → List ℕ → List ℕ
registers_from zero p d = []
registers_from (suc n) p d = get_or d p 0 ∷ registers_from n (suc p) d

-- number k of width w is registers D(kw) to D(kw+w-1), lowest first
abbrev pub number_at : (w : ℕ) → List ℕ → (k : ℕ) → ℕ
number_at w d k = value (registers_from w (k * w) d)

-- n numbers from number k on, and all 8/w of them
abbrev pub numbers_from : (w : ℕ) → List ℕ → (n k : ℕ) → List ℕ
numbers_from w d zero k = []
numbers_from w d (suc n) k = number_at w d k ∷ numbers_from w d n (suc k)

abbrev pub numbers_of : (w : ℕ) → List ℕ → List ℕ
numbers_of w d = numbers_from w d (8 / w) 0

-- back again: the w long words of a number, and the registers that hold some numbers. Where w divides 8, as 1, 2 and 4 do, `registers_of w (numbers_of w d)`
-- is d again (`registers_back` of proofs/Numbers)
abbrev pub longs_of : (w v : ℕ) → List ℕ
longs_of zero v = []
longs_of (suc w) v = v % radix ∷ longs_of w (v / radix)

unfoldable pub registers_of : (w : ℕ) → List ℕ → List ℕ
registers_of w [] = []
registers_of w (v ∷ vs) = longs_of w v ++ registers_of w vs

-- ---- the table, over the bits n of a number, so that M is 2 ^ n

-- The target's number after the line: d is what it was before, and s number a, which copy, add and sub alone read.
abbrev pub value_after : (n : ℕ) → Verb → (s d : ℕ) → ℕ
value_after n Clear s d = 0
value_after n Copy s d = s
value_after n Add s d = (d + s) % 2 ^ n
value_after n Sub s d = (d + (2 ^ n - s)) % 2 ^ n
value_after n Neg s d = (2 ^ n - d) % 2 ^ n
value_after n Not s d = 2 ^ n - 1 - d
-- a number with its top bit set stands for d - M; half of that, rounded down, is (d - M) / 2, and again plus M it is (d + M) / 2 (`halve_signed` of
-- proofs/Meaning)
value_after n Halve s d = cond (top n d) ((d + 2 ^ n) / 2) (d / 2)
value_after n Down s d = d / 2
value_after n Up s d = (2 * d) % 2 ^ n

-- X after the line; x is X before
abbrev pub x_after : (n : ℕ) → Verb → (s d : ℕ) → (x : Bool) → Bool
x_after n Clear s d x = x
x_after n Copy s d x = false
x_after n Add s d x = leb (2 ^ n) (d + s)
x_after n Sub s d x = ltb d s
x_after n Neg s d x = not (eqb d 0)
x_after n Not s d x = x
x_after n Halve s d x = lowest d
x_after n Down s d x = lowest d
x_after n Up s d x = leb (2 ^ n) (2 * d)

-- After add, sub and neg all flags are those of the whole number, by the Manual's rows in n bits: C the carry or borrow, V that the signed result doesn't
-- fit n bits, N its sign, Z that it is 0 (`add_means`, `sub_means`, `neg_means` of proofs/Meaning). After the other lines only X is promised: `None`.
abbrev pub codes_of : (n : ℕ) → Verb → (s d : ℕ) → Option Flags
codes_of n Clear s d = None
codes_of n Copy s d = None
codes_of n Add s d = Some (add_flags n s d (value_after n Add s d))
codes_of n Sub s d = Some (sub_flags n s d (value_after n Sub s d))
codes_of n Neg s d = Some (neg_flags n d (value_after n Neg s d))
codes_of n Not s d = None
codes_of n Halve s d = None
codes_of n Down s d = None
codes_of n Up s d = None

-- ---- line by line

-- what the rule speaks of: the numbers, X, and what is told of all five flags
pub record Account : Type 0 where
  pub numbers : List ℕ
  pub x : Bool
  pub codes : Option Flags

-- what a state says
abbrev pub account_of : (w : ℕ) → State → Account
account_of w s = record { numbers = numbers_of w s.d; x = s.flags.x; codes = Some s.flags }

-- a line changes no number but its target
abbrev pub rule_of : (w : ℕ) → Line → Account → Account
rule_of w l r =
    let n = 32 * w in
    let s = get_or r.numbers l.a 0 in
    let d = get_or r.numbers (target l) 0 in
    record {
      numbers = set r.numbers (target l) (value_after n l.verb s d);
      x = x_after n l.verb s d r.x;
      codes = codes_of n l.verb s d;
    }

unfoldable pub rules_of : (w : ℕ) → List Line → Account → Account
rules_of w [] r = r
rules_of w (l ∷ ls) r = rules_of w ls (rule_of w l r)
