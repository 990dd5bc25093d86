-- Document 01, "What each statement must exclude", for demands 2 and 3: each wrong version is shown not to satisfy the statement. Assumes nothing.
--     refuses_all      one that refuses all
--     constant_sum     one constant answer, of an operation, by sums 1 and 2; constant_run: of a recipe
--     does_nothing     one that does nothing, by `neg`; rests: the same of any run, by demand 3
--     idles            a run that does its work in the first step and idles after
--     made_up_count    a made-up step count: it is the next place less the start place
--     carry_dropped    a carry dropped between two words: ADD where ADDX should be, from every start whose low words carry
use mathlib.Core.Path.{◌≡◌, refl, sym, ap, ap₂, ◌∙◌}
use mathlib.Core.Bool.{false, true≢false}
use mathlib.Core.List.{List, [], ◌∷◌}
use Prim.Native.Nat.{ℕ, suc, ◌+◌, ◌-◌, ◌*◌, ◌%◌, ◌^◌, ◌≤◌, ◌<◌}
use mathlib.Core.Logic.{◌⊎◌, inl, inr}
use native.Mathlib.Nat.{mod-lt, mod-eq_of_lt, add-mul-mod_self_right}
use native.Mathlib.Omega.{arith}
use native.Mathlib.Decide.{dec_lt}
use lib.Dec.{lit<}
use lib.ListN.{get_or, replicate}
use Rattle.std.specs.Prelude.{Result, Ok, Err, is_ok, IsOk, IsErr}
use Rattle.alu.specs.declared.types.Size.TheVariants.{Byte}
use Rattle.alu.specs.declared.types.Flags.{Flags}
use Rattle.alu.specs.declared.types.Answer.{Answer}
use Rattle.alu.specs.Bits.{low, top}
use Rattle.alu.specs.ConditionCodes.{add_flags, neg_flags}
use Rattle.alu.specs.Arith.{sum, difference, add_of}
use Rattle.step.specs.declared.registers.State.{State}
use Rattle.step.specs.declared.forms.TwoOp.TheVariants as TwoOp
use Rattle.step.specs.declared.forms.Step.{Step}
use Rattle.step.specs.declared.runs.Ran.{Ran}
use Rattle.step.specs.Perform.{perform_of}
use Rattle.step.specs.Run.{run_of}
use Rattle.step.proofs.Laws.{run_next}
use Rattle.recipes.specs.declared.types.Verb.TheVariants.{Add, Neg}
use Rattle.recipes.specs.declared.types.Line.{Line}
use Rattle.recipes.specs.declared.types.Refused.{Refused}
use Rattle.recipes.specs.declared.types.RecipeRun.{RecipeRun}
use Rattle.text.specs.Text.{ascii, same_bytes, before, after, digit_of}
use Rattle.recipes.specs.declared.lines.Act.TheVariants.{Two}
use Rattle.recipes.specs.Recipe.{line_refusal}
use Rattle.recipes.specs.Reader.{verb_of, line_of, lines_of, width_line, read_of}
use Rattle.recipes.specs.Listing.{step_of, rising_rest, line_steps, listing_of}
use Rattle.recipes.specs.Rule.{numbers_of, registers_of, account_of, rules_of}
use Rattle.recipes.specs.Demand.{Meets, text_run_of}

abbrev no_flags : Flags
no_flags = record { x = false; n = false; z = false; v = false; c = false }

-- D0 to D3, and 0 in the other registers
abbrev loaded : (d0 d1 d2 d3 : ℕ) → State
loaded d0 d1 d2 d3 = record { d = d0 ∷ d1 ∷ d2 ∷ d3 ∷ 0 ∷ 0 ∷ 0 ∷ 0 ∷ []; a = replicate 8 0; flags = no_flags }

-- ---- the answers of a function that meets the contract of `run_text`

abbrev Meeting : (List ℕ → State → Result RecipeRun Refused) → Type 0
Meeting f = (text : List ℕ) (s : State) → f text s ≡ text_run_of text s

-- the data registers that an answer has, where there is one
abbrev registers_in : Result RecipeRun Refused → List ℕ
registers_in (Ok r) = r.d
registers_in (Err k) = []

empty_accepted : IsOk (text_run_of (ascii "width\t1\n") (loaded 0 0 0 0))
unfolding text_run_of read_of lines_of width_line digit_of same_bytes before after
empty_accepted = refl

pub refuses_all : (f : List ℕ → State → Result RecipeRun Refused) → Meeting f → ((text : List ℕ) (s : State) → IsErr (f text s)) → ⊥
refuses_all f meets refuses =
    let ok : IsOk (f (ascii "width\t1\n") (loaded 0 0 0 0)) = ap is_ok (meets _ (loaded 0 0 0 0)) ∙ empty_accepted in
    both (f (ascii "width\t1\n") (loaded 0 0 0 0)) ok (refuses _ (loaded 0 0 0 0))
  where
    both : (r : Result RecipeRun Refused) → IsOk r → IsErr r → ⊥
    both (Ok r) h g = true≢false (sym g)
    both (Err k) h g = true≢false (sym h)

-- 1 is negated to FFFFFFFF
negated : get_or (registers_in (text_run_of (ascii "width\t1\nneg\t0\n") (loaded 1 0 0 0))) 0 0 ≡ 0xffff_ffff
unfolding text_run_of read_of lines_of line_of verb_of digit_of width_line same_bytes before after line_refusal rules_of registers_of
negated = refl

pub does_nothing : (f : List ℕ → State → Result RecipeRun Refused) → Meeting f → ((text : List ℕ) (s : State) (r : RecipeRun) → f text s ≡ Ok r → r.d ≡ s.d) → ⊥
does_nothing f meets stays =
    by (f (ascii "width\t1\nneg\t0\n") (loaded 1 0 0 0)) (stays (ascii "width\t1\nneg\t0\n") (loaded 1 0 0 0))
    (ap (λ (r : Result RecipeRun Refused). get_or (registers_in r) 0 0) (meets _ (loaded 1 0 0 0)) ∙ negated)
  where
    by : (t : Result RecipeRun Refused) → ((r : RecipeRun) → t ≡ Ok r → r.d ≡ (loaded 1 0 0 0).d) → get_or (registers_in t) 0 0 ≡ 0xffff_ffff → ⊥
    by (Ok r) stays e = let f : ◌≡◌ {A = ℕ} 1 0xffff_ffff = ap (λ (d : List ℕ). get_or d 0 0) (sym (stays r refl)) ∙ e in omega arith
    by (Err k) stays e = omega arith

-- without a line 0 stays 0
kept : get_or (registers_in (text_run_of (ascii "width\t1\n") (loaded 0 0 0 0))) 0 0 ≡ 0
unfolding text_run_of read_of lines_of width_line digit_of same_bytes before after rules_of registers_of
kept = refl

-- and so by demand 3 itself: no run that leaves the registers meets the rule of `neg`
pub rests : (r : Ran) → Meets 1 (record { verb = Neg; a = 0; b = 0 } ∷ []) (loaded 1 0 0 0) r → r.state.d ≡ (loaded 1 0 0 0).d → ⊥
unfolding rules_of
rests r meets stays =
    let e : ◌≡◌ {A = ℕ} 1 0xffff_ffff = ap (λ (d : List ℕ). get_or (numbers_of 1 d) 0 0) (sym stays) ∙ ap (λ (ns : List ℕ). get_or ns 0 0) meets.rule.numbers in
    omega arith

pub constant_run : (r : Result RecipeRun Refused) → ((text : List ℕ) (s : State) → r ≡ text_run_of text s) → ⊥
constant_run r same =
    let d0 : Result RecipeRun Refused → ℕ = λ r. get_or (registers_in r) 0 0 in
    let e : ◌≡◌ {A = ℕ} 0 0xffff_ffff = sym kept ∙ (sym (ap d0 (same _ (loaded 0 0 0 0))) ∙ (ap d0 (same (ascii "width\t1\nneg\t0\n") (loaded 1 0 0 0)) ∙ negated)) in
    omega arith

-- ---- operations

pub constant_sum : (a : Answer) → ((s d : ℕ) (f : Flags) → a ≡ add_of Byte s d f) → ⊥
unfolding sum
constant_sum a same =
    let e : ◌≡◌ {A = ℕ} 0x80 0x00 = ap (λ (r : Answer). r.result) (sym (same 0x01 0x7f no_flags) ∙ same 0x01 0xff no_flags) in
    omega arith

-- ---- runs

-- document 01's recipe, `add 0 1` and `neg 1` at width 2, as sum 12 starts it
abbrev listing : List Step
listing = listing_of 2 (record { verb = Add; a = 0; b = 1 } ∷ record { verb = Neg; a = 1; b = 0 } ∷ [])

abbrev start : State
start = loaded 1 0 0xffff_ffff 0

after_one : get_or (run_of perform_of listing start 0 1).state.d 3 0 ≡ 0
unfolding run_of listing_of line_steps rising_rest top sum difference add_flags neg_flags
after_one = refl

after_four : get_or (run_of perform_of listing start 0 4).state.d 3 0 ≡ 0xffff_ffff
unfolding run_of listing_of line_steps rising_rest top sum difference add_flags neg_flags
after_four = refl

pub idles : (g : ℕ → Ran) → ((b : ℕ) → g b ≡ run_of perform_of listing start 0 b) → ((b : ℕ) → (g (suc b)).state ≡ (g 1).state) → ⊥
idles g meets idle =
    let d3 : Ran → ℕ = λ r. get_or r.state.d 3 0 in
    let e : ◌≡◌ {A = ℕ} 0xffff_ffff 0 = sym after_four ∙ (sym (ap d3 (meets 4)) ∙ (ap (λ (s : State). get_or s.d 3 0) (idle 3) ∙ (ap d3 (meets 1) ∙ after_one))) in
    omega arith

pub made_up_count : (l : List Step) (s : State) (p b : ℕ) (r : Ran) → r ≡ run_of perform_of l s p b → r.steps ≡ r.next - p
made_up_count l s p b r meets =
    let e : r.next ≡ p + r.steps = ap (λ (r : Ran). r.next) meets ∙ (run_next perform_of l s p b ∙ ap (λ (r : Ran). p + r.steps) (sym meets)) in omega arith

-- `add 0 1` at width 2 without its ADDX, from any start: D0 to D3, then whatever else
abbrev adding : List Line
adding = record { verb = Add; a = 0; b = 1 } ∷ []

-- a sum of two numbers below m is cut to itself, or to itself less m
abbrev Wrapped : (m x : ℕ) → Type 0
Wrapped m x = (x % m ≡ x) ⊎ (x % m + m ≡ x)

wraps : (m x : ℕ) → x < m + m → Dec (x < m) → Wrapped m x
wraps m x h (yes l) = inl (mod-eq_of_lt l)
wraps m x h (no g) =
    let parts : x ≡ x - m + 1 * m = omega arith in
    let cut : x % m ≡ x - m = ap (λ (y : ℕ). y % m) parts ∙ (add-mul-mod_self_right (x - m) 1 m ∙ mod-eq_of_lt (omega arith)) in
    inr (ap (λ (y : ℕ). y + m) cut ∙ omega arith)

-- low and high are the sums of the low words and of the high ones, and the low words carry
one_short : (low high : ℕ) → 2 ^ 32 ≤ low → low < 2 * 2 ^ 32 → high < 2 * 2 ^ 32 → Wrapped (2 ^ 32) low → Wrapped (2 ^ 32) high → Wrapped (2 ^ 64) (low + 2 ^ 32 * high)
    → low % 2 ^ 32 + 2 ^ 32 * (high % 2 ^ 32) ≡ (low + 2 ^ 32 * high) % 2 ^ 64 → ⊥
one_short low high c l h (inl p) q r e = let cut : low % 2 ^ 32 < 2 ^ 32 = mod-lt low (lit< tt) in omega (arith, p, cut)
one_short low high c l h (inr p) (inl q) (inl r) e = omega (arith, p, q, r, e)
one_short low high c l h (inr p) (inl q) (inr r) e = omega (arith, p, q, r, e)
one_short low high c l h (inr p) (inr q) (inl r) e = omega (arith, p, q, r, e)
one_short low high c l h (inr p) (inr q) (inr r) e = omega (arith, p, q, r, e)

module _ (d0 d1 d2 d3 : ℕ) (rest a : List ℕ) (f : Flags) where
  abbrev begun : State
  begun = record { d = d0 ∷ d1 ∷ d2 ∷ d3 ∷ rest; a = a; flags = f }

  abbrev dropping : Ran
  dropping = run_of perform_of (step_of (Two TwoOp.Add) 0 2 ∷ step_of (Two TwoOp.Add) 1 3 ∷ []) begun 0 2

  -- number 1 as the run leaves it, and as the rule has it
  carry_gone : get_or (numbers_of 2 dropping.state.d) 1 0 ≡ (low 32 d2 + low 32 d0 + 0) % 2 ^ 32 + 2 ^ 32 * ((low 32 d3 + low 32 d1 + 0) % 2 ^ 32 + 2 ^ 32 * 0)
  unfolding run_of sum
  carry_gone = refl

  carry_due : get_or (rules_of 2 adding (account_of 2 begun)).numbers 1 0 ≡ (d2 + 2 ^ 32 * (d3 + 2 ^ 32 * 0) + (d0 + 2 ^ 32 * (d1 + 2 ^ 32 * 0))) % 2 ^ 64
  unfolding rules_of
  carry_due = refl

  pub carry_dropped : d0 < 2 ^ 32 → d1 < 2 ^ 32 → d2 < 2 ^ 32 → d3 < 2 ^ 32 → 2 ^ 32 ≤ d0 + d2 → Meets 2 adding begun dropping → ⊥
  carry_dropped h0 h1 h2 h3 carries meets =
      let low = d2 + d0 in
      let high = d3 + d1 in
      let left : get_or (numbers_of 2 dropping.state.d) 1 0 ≡ low % 2 ^ 32 + 2 ^ 32 * (high % 2 ^ 32) =
      carry_gone ∙ (ap₂ {C = ℕ} (λ (l h : ℕ). l % 2 ^ 32 + 2 ^ 32 * (h % 2 ^ 32 + 2 ^ 32 * 0)) (cut h2 h0) (cut h3 h1) ∙ omega arith) in
      let right : (d2 + 2 ^ 32 * (d3 + 2 ^ 32 * 0) + (d0 + 2 ^ 32 * (d1 + 2 ^ 32 * 0))) % 2 ^ 64 ≡ (low + 2 ^ 32 * high) % 2 ^ 64 = ap (λ (v : ℕ). v % 2 ^ 64) (omega arith) in
      one_short low high (omega arith) (omega arith) (omega arith)
      (wraps (2 ^ 32) low (omega arith) (dec_lt low (2 ^ 32))) (wraps (2 ^ 32) high (omega arith) (dec_lt high (2 ^ 32)))
      (wraps (2 ^ 64) (low + 2 ^ 32 * high) (omega arith) (dec_lt (low + 2 ^ 32 * high) (2 ^ 64)))
      (sym left ∙ (ap (λ (ns : List ℕ). get_or ns 1 0) meets.rule.numbers ∙ (carry_due ∙ right)))
    where
      cut : {x y : ℕ} → x < 2 ^ 32 → y < 2 ^ 32 → x % 2 ^ 32 + y % 2 ^ 32 + 0 ≡ x + y
      cut {x} {y} h l = omega arith
