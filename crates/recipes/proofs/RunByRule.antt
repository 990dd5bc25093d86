-- What the functions that run a recipe cite: a refused recipe, and a recipe that was run by the rule. Assumes nothing.
use mathlib.Core.Path.{◌≡◌, refl, sym, ap, ap₂, ◌∙◌, subst, subst⁻¹}
use Rattle.std.specs.Prelude.{Option, Some, Result, Ok, Err, is_ok, slice_get}
use Rattle.std.proofs.lemmas.Option.{slice_get_within, get_or_from_slice_get}
use mathlib.Core.List.{List, [], ◌∷◌}
use Prim.Native.Nat.{ℕ, zero, suc, ◌-◌}
use native.Mathlib.Omega.{arith}
use lib.ListN.{length, get_or, take}
use Rattle.alu.specs.declared.types.Flags.{Flags}
use Rattle.step.specs.declared.registers.State.{State}
use Rattle.step.specs.declared.forms.Step.{Step}
use Rattle.step.specs.declared.runs.Ran.{Ran}
use Rattle.step.specs.Perform.{perform_of}
use Rattle.step.specs.Run.{run_of}
use Rattle.recipes.specs.declared.types.Verb.{Verb}
use Rattle.recipes.specs.declared.types.Verb.TheVariants.{Clear, Copy, Add, Sub, Neg, Not, Halve, Down, Up}
use Rattle.recipes.specs.declared.types.Line.{Line}
use Rattle.recipes.specs.declared.types.Recipe.{Recipe}
use Rattle.recipes.specs.declared.types.Listing.{Listing}
use Rattle.recipes.specs.declared.types.Refused.{Refused}
use Rattle.recipes.specs.declared.types.RecipeRun.{RecipeRun}
use Rattle.recipes.specs.Recipe.{unused, recipe_lines}
use Rattle.recipes.specs.Reader.{read_of}
use Rattle.recipes.specs.Listing.{steps_max, Translated, translated, translate_of, listing_in, listed, blanks, array_of}
use Rattle.recipes.specs.Rule.{codes_of, Account, account_of, rule_of, rules_of}
use Rattle.recipes.specs.Demand.{EightLongs, Holds, Meets, ran_by_rule, recipe_run_of, text_run_of}
use Rattle.recipes.specs.Making.{codes_behind, codes_after}
use Rattle.recipes.proofs.Accepting.{Good, width_is, tests_agree}
use Rattle.recipes.proofs.Settling.{whole_fits, blanks_fit, blanks_count}
use Rattle.recipes.proofs.Agreeing.{read_sound, good_passes, translated_good}
use Rattle.recipes.proofs.Demand.{one_by_one, ruled_registers}

-- ---- what is told of the flags

-- the last of the lines decides
codes_last : (ls : List Line) (k : ℕ) (f : Flags) → length ls ≡ suc k → codes_after ls f ≡ codes_behind (get_or ls k unused).verb f
codes_last [] k f h = absurd (omega arith)
codes_last (l ∷ []) zero f h = refl
codes_last (l ∷ []) (suc k) f h = absurd (omega arith)
codes_last (l ∷ m ∷ ls) zero f h = absurd (omega arith)
codes_last (l ∷ m ∷ ls) (suc k) f h = codes_last (m ∷ ls) k f (omega arith)

-- as the code finds it
pub codes_found : (ls : List Line) (l : Line) (f : Flags) → slice_get ls (length ls - 1) ≡ Some l → codes_after ls f ≡ codes_behind l.verb f
codes_found ls l f e =
    let within = slice_get_within ls (length ls - 1) l e in
    codes_last ls (length ls - 1) f (omega arith) ∙ ap (λ (l : Line). codes_behind l.verb f) (get_or_from_slice_get ls (length ls - 1) l unused e)

-- flags that are as told are told
line_told : (v : Verb) (n s d : ℕ) (f : Flags) → Holds (codes_of n v s d) f → codes_behind v f ≡ codes_of n v s d
line_told Clear n s d f h = refl
line_told Copy n s d f h = refl
line_told Add n s d f h = ap Some h
line_told Sub n s d f h = ap Some h
line_told Neg n s d f h = ap Some h
line_told Not n s d f h = refl
line_told Halve n s d f h = refl
line_told Down n s d f h = refl
line_told Up n s d f h = refl

lines_told : (w : ℕ) (l : Line) (ls : List Line) (r : Account) (f : Flags) → Holds (rules_of w (l ∷ ls) r).codes f → codes_after (l ∷ ls) f ≡ (rules_of w (l ∷ ls) r).codes
unfolding rules_of
lines_told w l [] r f h = line_told l.verb _ _ _ f h
lines_told w l (m ∷ ls) r f h = lines_told w m ls (rule_of w l r) f h

codes_told : (w : ℕ) (ls : List Line) (s : State) (f : Flags) → Holds (rules_of w ls (account_of w s)).codes f → codes_after ls f ≡ (rules_of w ls (account_of w s)).codes
unfolding rules_of
codes_told w [] s f h = ap Some h
codes_told w (l ∷ ls) s f h = lines_told w l ls (account_of w s) f h

-- ---- a recipe that is refused, and one that is run: what the translator made of it

-- what is told of the recipe's listing, where it is refused, and where it has one
abbrev Refuses : Result Listing Refused → Result RecipeRun Refused → Type 0
Refuses (Ok l) t = Unit {0}
Refuses (Err k) t = Err k ≡ t

refuses : (r : Recipe) (s : State) → Refuses (array_of r) (recipe_run_of r s)
unfolding translate_of recipe_run_of
refuses r s =
    tests_agree (λ (t : Translated) (run : Result RecipeRun Refused). Refuses (listing_in t) run) (λ k. translated (Err k) blanks) Err (λ k. refl) r _ _
    (λ g. subst⁻¹ (λ (t : Translated). Refuses (listing_in t) (Ok (ran_by_rule r.width (recipe_lines r) s))) (whole_fits r.width (recipe_lines r) blanks (blanks_fit r (width_is r.width g.width).1 g.few)) tt)

pub recipe_refused : (r : Recipe) (s : State) (k : Refused) → array_of r ≡ Err k → Err k ≡ recipe_run_of r s
recipe_refused r s k e = subst (λ (l : Result Listing Refused). Refuses l (recipe_run_of r s)) e (refuses r s)

-- a listing that was made is what the translator leaves in the blank slots
made_told : (t : Translated) (l : Listing) → listing_in t ≡ Ok l → t ≡ translated (Ok l.count) l.steps
made_told t l e = go t.told refl e
  where
    go : (told : Result ℕ Refused) → t.told ≡ told → listing_in (translated told t.slots) ≡ Ok l → t ≡ translated (Ok l.count) l.steps
    go (Ok n) is e =
        let same : listed n t.slots ≡ l = cc in
        ap₂ (λ (told : Result ℕ Refused) (slots : List Step). translated told slots) (is ∙ ap (λ (l : Listing). Ok l.count) same) (ap (λ (l : Listing). l.steps) same)
    go (Err k) is e = cc

pub made_good : (r : Recipe) (l : Listing) → array_of r ≡ Ok l → Good r
made_good r l e = (translated_good r blanks (ap (λ (t : Translated). is_ok t.told) (made_told (translate_of r blanks) l e))).0

-- what the code answers of a listing's run
abbrev pub answered : Ran → Option Flags → RecipeRun
answered t codes = record { d = t.state.d; a = t.state.a; x = t.state.flags.x; codes = codes; steps = t.steps; clocks = t.clocks }

-- a run that meets the rule answers it
ruled_by : (r : Recipe) (s : State) (t : Ran) → Good r → Meets r.width (recipe_lines r) s t
    → Ok (answered t (codes_after (recipe_lines r) t.state.flags)) ≡ recipe_run_of r s
unfolding recipe_run_of
ruled_by r s t g h =
    let w = r.width in
    let ls = recipe_lines r in
    (λ i. Ok (record {
      d = sym (ruled_registers w g.width (rules_of w ls (account_of w s)) s t.state h.rule) i;
      a = h.rule.addresses i;
      x = h.rule.x i;
      codes = codes_told w ls s t.state.flags h.rule.codes i;
      steps = h.steps i;
      clocks = h.clocks i;
    }))
    ∙ sym (good_passes Err r (Ok (ran_by_rule w ls s)) g)

-- the listing that was made of a good recipe meets it, run whole
pub run_ruled : (r : Recipe) (s : State) (l : Listing) (t : Ran) (codes : Option Flags) → array_of r ≡ Ok l → EightLongs s.d
    → t ≡ run_of perform_of (take l.count l.steps) s 0 steps_max → codes ≡ codes_after (recipe_lines r) t.state.flags → Ok (answered t codes) ≡ recipe_run_of r s
run_ruled r s l t codes e ok ran told =
    let is = made_told (translate_of r blanks) l e in
    let by = one_by_one r blanks l.count (ap (λ (t : Translated). t.told) is) s ok steps_max [] (blanks_count r l e) in
    let meets : Meets r.width (recipe_lines r) s t =
    subst⁻¹ (Meets r.width (recipe_lines r) s) ran (subst (λ (u : Translated). Meets r.width (recipe_lines r) s (run_of perform_of (take l.count u.slots) s 0 steps_max)) is by.meets) in
    ap (λ (c : Option Flags). Ok (answered t c)) told ∙ ruled_by r s t (made_good r l e) meets

-- a text that is read is run as its recipe is, and a refusal is the text's
pub text_run : (text : List ℕ) (r : Recipe) (s : State) → read_of text ≡ Ok r → recipe_run_of r s ≡ text_run_of text s
unfolding recipe_run_of text_run_of
text_run text r s e = good_passes Err r _ (read_sound text r e) ∙ rw e

pub text_refused : (text : List ℕ) (k : Refused) (s : State) → read_of text ≡ Err k → Err k ≡ text_run_of text s
unfolding text_run_of
text_refused text k s e = rw e
