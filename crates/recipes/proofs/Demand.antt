-- Demand 3: the listing of an accepted recipe, run whole or in parts, does what the rule says line by line. `lines_lead` holds of any step function that
-- keeps the promises of the step machine (`Steps`); the machine's own does (`performs`). Assumes nothing.
--     demand_3           Demand3 of specs/Demand
--     halted_behind      HaltedBehind: halted behind the steps of its first lines, the registers and flags are as those lines leave them
--     one_by_one         CalledOneByOne: it holds for whoever calls the translator and the run one by one; from_text: and the reader before them
--     each_step          EachStep: each step of a translated recipe is one of the line that it carries
--     each_box           EachBox: it holds for each box of a rack
--     called_whole, called_halted   the same in the words of the contracts of `translate` and `run`
--     steps_few          an accepted recipe has at most `steps_max` steps
--     meets_one          two runs that meet the rule and end alike are equal, once their flags are; `meets_x`: their X is; `meets_flags`: after add, sub and neg, all five
--     ruled_registers    the rule's numbers determine the registers
use mathlib.Core.Path.{◌≡◌, refl, sym, ap, ap₂, ◌∙◌, subst, subst⁻¹}
use mathlib.Core.Bool.{Bool, true}
use mathlib.Core.List.{List, [], ◌∷◌, ◌++◌, map, append-nil, map-append}
use Prim.Native.Nat.{ℕ, zero, suc, ◌+◌, ◌-◌, ◌*◌, ◌/◌, ◌≤◌, ◌<◌}
use native.Mathlib.Omega.{arith}
use native.Mathlib.Nat.{add-zero, zero-add, add_assoc}
use lib.ListN.{length, set, take, drop, length-append, get_or}
use lib.Seq.{take-append_seam}
use Rattle.std.specs.Prelude.{Option, Some, Result, Ok, is_ok}
use Rattle.alu.specs.declared.types.Flags.{Flags}
use Rattle.step.specs.declared.registers.State.{State}
use Rattle.step.specs.declared.forms.Step.{Step}
use Rattle.step.specs.declared.steps.Performed.{Performed}
use Rattle.step.specs.declared.runs.End.{End}
use Rattle.step.specs.declared.runs.End.TheVariants.{Finished}
use Rattle.step.specs.declared.runs.Ran.{Ran}
use Rattle.step.specs.Perform.{perform_of}
use Rattle.step.specs.Run.{ends, run_of, after}
use Rattle.step.specs.Parts.{goes_on, run_in_parts, PartsGo, total}
use Rattle.step.specs.Lines.{bare, bare_end, bare_ran}
use Rattle.step.specs.Rack.{state_of, box_in_parts}
use Rattle.step.proofs.Laws.{spot_end, run_end}
use Rattle.step.proofs.Lines.{blind, goes_bare, parts_bare, parts_go_bare}
use Rattle.step.proofs.Boxes.{plan_fitting, rack_parts}
use Rattle.step.proofs.Promises.{Alu, Legal, Steps, performs}
use Rattle.step.proofs.Leading.{All, executed, figures, Stands, stands_first, stands_left, stands_right, Leads, leads_none, leads_then, leads_like, leads_through, leads_in_parts, idle}
use Rattle.recipes.specs.declared.types.Line.{Line}
use Rattle.recipes.specs.declared.types.Recipe.{Recipe}
use Rattle.recipes.specs.declared.types.Refused.{Refused}
use Rattle.recipes.specs.Recipe.{is_width, target, recipe_lines, Names, Accepted}
use Rattle.step.specs.Lent.{over}
use Rattle.recipes.specs.Listing.{steps_max, line_steps, listing_of, numbered_of, steps_at, steps_of, Translated, translated, translate_of, clocks_of, blank}
use Rattle.recipes.specs.Rule.{numbers_of, registers_of, codes_of, Account, account_of, rule_of, rules_of}
use Rattle.recipes.specs.Demand.{EightLongs, Holds, Ruled, Meets, Finishes, Demand3, HaltedBehind, CalledOneByOne, FromText, EachStep, EachBox}
use Rattle.recipes.proofs.Steps.{line_length, listing_steps, numbered_steps}
use Rattle.recipes.proofs.Places.{numbered_at, place_at}
use Rattle.recipes.proofs.Accepting.{Good, width_all, width_is}
use Rattle.recipes.proofs.Settling.{few_steps}
use Rattle.recipes.proofs.Agreeing.{read_sound, good_translates, translated_good}
use Rattle.recipes.proofs.Legal.{line_legal, listing_legal, figure_same, numbered_bare}
use Rattle.recipes.proofs.Numbers.{numbers_stored, longs_kept, registers_back}
use Rattle.recipes.proofs.Doing.{Does, num, line_does}

-- ---- one line

-- a line goes by the numbers and X alone
rule_said : (w : ℕ) (l : Line) (s₀ s : State) (r : Account) → Ruled w r s₀ s → rule_of w l (account_of w s) ≡ rule_of w l r
rule_said w l s₀ s r says =
    ap₂ {C = Account} (λ (ns : List ℕ) (x : Bool). rule_of w l (record { numbers = ns; x = x; codes = r.codes })) says.numbers says.x

line_ruled : (w : ℕ) (l : Line) (s₀ s t : State) (r : Account) → Ruled w r s₀ s → Names (8 / w) l → Does w l.verb l.a (target l) s t → Ruled w (rule_of w l r) s₀ t
line_ruled w l s₀ s t r says named does =
    subst (λ (q : Account). Ruled w q s₀ t) (rule_said w l s₀ s r says)
    (record {
      numbers =
          ap (λ (u : State). numbers_of w u.d) does.lands
          ∙ (numbers_stored w s.d does.row.words (target l) says.longs.count does.size named.goal
          ∙ ap (set (numbers_of w s.d) (target l)) does.result);
      x = ap (λ (u : State). u.flags.x) does.lands ∙ does.x;
      codes = subst⁻¹ (λ (u : State). Holds (codes_of (32 * w) l.verb (num w s l.a) (num w s (target l))) u.flags) does.lands does.codes;
      addresses = ap (λ (u : State). u.a) does.lands ∙ says.addresses;
      longs = subst⁻¹ (λ (u : State). EightLongs u.d) does.lands (longs_kept (target l * w) s.d does.row.words says.longs does.below);
    })

-- ---- all lines

figures_append : (figure : Step → ℕ) (ks ls : List Step) → figures figure (ks ++ ls) ≡ figures figure ks + figures figure ls
figures_append figure [] ls = sym (zero-add _)
figures_append figure (k ∷ ks) ls = ap (λ (c : ℕ). figure k + c) (figures_append figure ks ls) ∙ sym (add_assoc (figure k) _ _)

module _ (f : State → Step → Performed) (step : Steps f) (n : ℕ) (l : List Step) (s₀ : State) where
  -- from state s at place p, so many steps of so many clocks in all lead to place q and to a state that says r
  record Came (p : ℕ) (s : State) (steps clocks : ℕ) (r : Account) (q : ℕ) : Type 0 where
    state : State
    leads : Leads f l s p steps clocks state q
    rule : Ruled (suc n) r s₀ state

  -- the lines' steps lead to what the rule makes of r
  lines_lead : (ls : List Line) (p : ℕ) (s : State) (r : Account) → Accepted (suc n) ls → Ruled (suc n) r s₀ s → Stands l p (listing_of (suc n) ls)
      → Came p s (steps_of (suc n) ls) (figures step.figure (listing_of (suc n) ls)) (rules_of (suc n) ls r) (p + steps_of (suc n) ls)
  unfolding listing_of steps_of rules_of
  lines_lead [] p s r h says at =
      record { state = s; leads = leads_like f l (leads_none f l s p) _ _ refl (sym (add-zero p)); rule = says }
  lines_lead (k ∷ ls) p s r h says at =
      let m : Alu = step.alu in
      let ks : List Step = line_steps (suc n) k in
      let t : State = executed m ks s in
      let now : Ruled (suc n) (rule_of (suc n) k r) s₀ t = line_ruled (suc n) k s₀ s t r says h.0 (line_does m step.promises n s says.longs k h.0) in
      let size : length ks ≡ steps_at k.verb * suc n = line_length (suc n) k in
      let rest = lines_lead ls (p + length ks) t (rule_of (suc n) k r) h.1 now (stands_right l p ks (listing_of (suc n) ls) at) in
      let run = leads_through f l step ks s p (stands_left l p ks (listing_of (suc n) ls) at) (line_legal (suc n) k h.0) in
      record {
        state = rest.state;
        leads =
            subst⁻¹ (λ (c : ℕ). Leads f l s p (steps_of (suc n) (k ∷ ls)) c rest.state (p + steps_of (suc n) (k ∷ ls))) (figures_append step.figure ks (listing_of (suc n) ls))
            (leads_like f l (leads_then f l run rest.leads) _ _ (omega arith) (omega arith));
        rule = rest.rule;
      }

-- the figures of a legal listing are those that are printed
figures_printed : (ks : List Step) (s : State) → All Legal ks → figures performs.figure ks ≡ clocks_of ks
unfolding clocks_of
figures_printed [] s h = refl
figures_printed (k ∷ ks) s h =
    ap₂ {C = ℕ} (λ (a b : ℕ). a + b) (sym (performs.does k s h.0).clocks ∙ figure_same k s h.0) (figures_printed ks s h.1)

-- a state says what it says
says_itself : (w : ℕ) (s : State) → EightLongs s.d → Ruled w (account_of w s) s s
says_itself w s ok = record { numbers = refl; x = refl; codes = refl; addresses = refl; longs = ok }

-- a recipe's listing in front of any steps
came_through : (n : ℕ) (ls : List Line) (more : List Step) → Accepted (suc n) ls → (s : State) → EightLongs s.d
    → Came perform_of performs n (listing_of (suc n) ls ++ more) s 0 s (steps_of (suc n) ls) (clocks_of (listing_of (suc n) ls)) (rules_of (suc n) ls (account_of (suc n) s)) (steps_of (suc n) ls)
came_through n ls more h s ok =
    let ks = listing_of (suc n) ls in
    let came = lines_lead perform_of performs n (ks ++ more) s ls 0 s (account_of (suc n) s) h (says_itself (suc n) s ok) (stands_first ks more) in
    subst (λ (c : ℕ). Came perform_of performs n (ks ++ more) s 0 s (steps_of (suc n) ls) c (rules_of (suc n) ls (account_of (suc n) s)) (steps_of (suc n) ls))
    (figures_printed ks s (listing_legal (suc n) ls h))
    (record { state = came.state; leads = leads_like perform_of (ks ++ more) came.leads _ _ refl (zero-add _); rule = came.rule })

-- the listing without lines
bare_finishes : (w : ℕ) → 0 < w → (ls : List Line) → Accepted w ls → (s : State) → EightLongs s.d → (b : ℕ) (bs : List ℕ) → steps_of w ls ≤ total b bs
    → Finishes w ls (listing_of w ls) s b bs
bare_finishes zero pos ls h s ok b bs enough = absurd (omega arith)
bare_finishes (suc n) pos ls h s ok b bs enough =
    let l = listing_of (suc n) ls in
    let steps = steps_of (suc n) ls in
    let more = total b bs - steps in
    let came = subst (λ (k : List Step). Came perform_of performs n k s 0 s steps (clocks_of l) (rules_of (suc n) ls (account_of (suc n) s)) steps) (append-nil l) (came_through n ls [] h s ok) in
    let over : run_of perform_of l came.state steps more ≡ ends Finished came.state steps =
    run_end perform_of l came.state steps more (spot_end l steps (sym (listing_steps (suc n) ls))) in
    let led = leads_in_parts perform_of l came.leads more b bs (omega arith) (subst⁻¹ (λ (r : Ran). goes_on r.end ≡ true) over refl) in
    let parts = led.1 ∙ ap (after steps (clocks_of l)) over in
    record {
      parts = led.0;
      end = ap (λ (r : Ran). r.end) parts;
      meets = subst⁻¹ (Meets (suc n) ls s) parts (record { rule = came.rule; next = refl; steps = add-zero _; clocks = add-zero _ });
    }

-- what is said of a run is said of it with any lines: none of it is the line that an end tells
bare_meets : (w : ℕ) (ls : List Line) (s : State) (r : Ran) → Meets w ls s (bare_ran r) → Meets w ls s r
bare_meets w ls s r m = record { rule = m.rule; next = m.next; steps = m.steps; clocks = m.clocks }

bare_finished : (e : End) → bare_end e ≡ Finished → e ≡ Finished
bare_finished Finished h = refl
bare_finished End.Budget h = h
bare_finished (End.Trapped trap p n) h = cc
bare_finished (End.Refused fault p n) h = cc

pub demand_3 : Demand3
demand_3 w pos ls h l lines s ok b bs enough =
    let f = subst⁻¹ (λ (l : List Step). Finishes w ls l s b bs) lines (bare_finishes w pos ls h s ok b bs enough) in
    let same = parts_bare perform_of blind l bs s 0 b in
    let r = run_in_parts perform_of l s 0 b bs in
    record {
      parts = parts_go_bare perform_of blind l bs s 0 b f.parts;
      end = bare_finished r.end (ap (λ (r : Ran). r.end) same ∙ f.end);
      meets = bare_meets w ls s r (subst⁻¹ (Meets w ls s) same f.meets);
    }

-- halted behind the listing without lines
bare_halted : (w : ℕ) → 0 < w → (ls : List Line) → Accepted w ls → (more : List Step) → (s : State) → EightLongs s.d → (b : ℕ) (bs : List ℕ) → total b bs ≡ steps_of w ls
    → let l = listing_of w ls ++ more in
    let r = run_in_parts perform_of l s 0 b bs in PartsGo perform_of l s 0 b bs × ((goes_on r.end ≡ true) × Meets w ls s r)
bare_halted zero pos ls h more s ok b bs there = absurd (omega arith)
bare_halted (suc n) pos ls h more s ok b bs there =
    let l = listing_of (suc n) ls ++ more in
    let steps = steps_of (suc n) ls in
    let clocks = clocks_of (listing_of (suc n) ls) in
    let came = came_through n ls more h s ok in
    let inside : steps ≤ length l = omega (arith, listing_steps (suc n) ls, length-append (listing_of (suc n) ls) more) in
    let idles = idle perform_of l came.state steps inside in
    let led = leads_in_parts perform_of l came.leads 0 b bs (omega arith) idles.goes in (
      led.0,
      subst⁻¹ (λ (r : Ran). (goes_on r.end ≡ true) × Meets (suc n) ls s r) led.1 (
        idles.goes,
        record {
          rule = subst⁻¹ (Ruled (suc n) (rules_of (suc n) ls (account_of (suc n) s)) s) idles.state came.rule;
          next = idles.next;
          steps = ap (λ (k : ℕ). steps + k) idles.steps ∙ add-zero _;
          clocks = ap (λ (k : ℕ). clocks + k) idles.clocks ∙ add-zero _;
        },
      ),
    )

pub halted_behind : HaltedBehind
halted_behind w pos ls h l more lines s ok b bs there =
    let k = l ++ more in
    let bared : map bare k ≡ listing_of w ls ++ map bare more = map-append bare l more ∙ ap (λ (l : List Step). l ++ map bare more) lines in
    let f = subst⁻¹ (λ (k : List Step). let r = run_in_parts perform_of k s 0 b bs in PartsGo perform_of k s 0 b bs × ((goes_on r.end ≡ true) × Meets w ls s r)) bared (bare_halted w pos ls h (map bare more) s ok b bs there) in
    let same = parts_bare perform_of blind k bs s 0 b in
    let r = run_in_parts perform_of k s 0 b bs in (
      parts_go_bare perform_of blind k bs s 0 b f.0,
      (sym (goes_bare r.end) ∙ (ap (λ (r : Ran). goes_on r.end) same ∙ f.1.0), bare_meets w ls s r (subst⁻¹ (Meets w ls s) same f.1.1)),
    )

-- ---- for the code

pub steps_few : (r : Recipe) → Good r → steps_of r.width (recipe_lines r) ≤ steps_max
steps_few r g = few_steps r (width_is r.width g.width).1 g.few

-- what was translated is the listing with its lines: its steps are the first `count` slots
translated_listing : (r : Recipe) (slots : List Step) (count : ℕ) → (translate_of r slots).told ≡ Ok count
    → (count ≡ steps_of r.width (recipe_lines r)) × (take count (translate_of r slots).slots ≡ numbered_of r.width 2 (recipe_lines r))
translated_listing r slots count e =
    let g = translated_good r slots (ap is_ok e) in
    let w = r.width in
    let ls = recipe_lines r in
    let is = good_translates r slots g.0 g.1 in
    let many : count ≡ steps_of w ls = let told = ap (λ (t : Translated). t.told) is in cc in (
      many,
      ap₂ (λ (n : ℕ) (t : Translated). take n t.slots) many is
          ∙ (ap (λ (n : ℕ). take n (over (numbered_of w 2 ls) slots)) (sym (numbered_steps w 2 ls)) ∙ take-append_seam (numbered_of w 2 ls) (drop (length (numbered_of w 2 ls)) slots)),
    )

pub one_by_one : CalledOneByOne
one_by_one r slots count e s ok b bs enough =
    let w = r.width in
    let ls = recipe_lines r in
    let g = (translated_good r slots (ap is_ok e)).0 in
    let is = translated_listing r slots count e in
    subst⁻¹ (λ (l : List Step). Finishes w ls l s b bs) is.1
    (demand_3 w (width_is w g.width).0 ls g.lines (numbered_of w 2 ls) (numbered_bare w 2 ls g.lines) s ok b bs (subst (λ (n : ℕ). n ≤ total b bs) is.0 enough))

-- the step at a place, taken among the first or among all
taken_at : (n : ℕ) (l : List Step) (p : ℕ) → p < n → get_or (take n l) p blank ≡ get_or l p blank
taken_at zero l p h = absurd (omega arith)
taken_at (suc n) [] p h = refl
taken_at (suc n) (k ∷ l) zero h = refl
taken_at (suc n) (k ∷ l) (suc p) h = taken_at n l p (omega arith)

pub each_step : EachStep
each_step r slots count e p h =
    let w = r.width in
    let ls = recipe_lines r in
    let t = translate_of r slots in
    let is = translated_listing r slots count e in
    let found = place_at w ls p (subst (λ (n : ℕ). p < n) is.0 h) in
    let at = found.1.1 in
    record {
      line = found.0;
      index = found.1.0;
      there = at.line;
      place = at.place;
      within = at.step;
      step =
          sym (taken_at count t.slots p h)
          ∙ (ap (λ (l : List Step). get_or l p blank) is.1
          ∙ (ap (λ (q : ℕ). get_or (numbered_of w 2 ls) q blank) at.place ∙ sym (numbered_at w 2 ls found.0 found.1.0 at.line at.step)));
    }

pub from_text : FromText
from_text text r slots e room =
    let g = read_sound text r e in
    ap (λ (t : Translated). is_ok t.told) (good_translates r slots g (omega (arith, steps_few r g)))

pub each_box : EachBox
each_box w some ls ok l lines sets starts answers fits i d inside longs first b bs enough =
    let s = get_or sets i (state_of d) in
    let whole = demand_3 w some ls ok l lines s longs b bs enough in
    let box : box_in_parts perform_of l d i sets starts answers b bs ≡ run_in_parts perform_of l s 0 b bs =
    rack_parts perform_of l d i sets starts answers d.next b bs (plan_fitting (length sets) (length starts) (length answers) fits) inside
    ∙ ap (λ (p : ℕ). run_in_parts perform_of l s p b bs) first in
    (whole.parts, subst⁻¹ (λ (r : Ran). (r.end ≡ Finished) × Meets w ls s r) box (whole.end, whole.meets))

-- in the words of the contracts: t and `left` are what `translate` says and leaves, ran what `run` or `run_array` answers
module _ (r : Recipe) (slots left : List Step) (t : Result ℕ Refused) (made : translated t left ≡ translate_of r slots) (count : ℕ) (fine : t ≡ Ok count) (s : State) (ok : EightLongs s.d) where
  abbrev listing : List Step
  listing = take count left

  called : (b : ℕ) (bs : List ℕ) → count ≤ total b bs → Finishes r.width (recipe_lines r) listing s b bs
  called b bs enough =
      subst⁻¹ (λ (t : Translated). t.told ≡ Ok count → Finishes r.width (recipe_lines r) (take count t.slots) s b bs) made
      (λ e. one_by_one r slots count e s ok b bs enough) fine

  -- run whole
  pub called_whole : (b : ℕ) → count ≤ b → (ran : Ran) → ran ≡ run_of perform_of listing s 0 b → (ran.end ≡ Finished) × Meets r.width (recipe_lines r) s ran
  called_whole b enough ran is =
      let f = called b [] enough in subst⁻¹ (λ (q : Ran). (q.end ≡ Finished) × Meets r.width (recipe_lines r) s q) is (f.end, f.meets)

  -- halted after at most j steps, and continued with registers, flags and place kept
  pub called_halted : (j k : ℕ) → count ≤ j + k → (first : Ran) → first ≡ run_of perform_of listing s 0 j → (ran : Ran) → ran ≡ run_of perform_of listing first.state first.next k
      → (ran.end ≡ Finished) × Meets r.width (recipe_lines r) s (after first.steps first.clocks ran)
  called_halted j k enough first is ran again =
      let f = called j (k ∷ []) enough in
      subst⁻¹ (λ (q : Ran). (q.end ≡ Finished) × Meets r.width (recipe_lines r) s (after first.steps first.clocks q)) again
      (subst⁻¹ (λ (q : Ran). let c = run_of perform_of listing q.state q.next k in (c.end ≡ Finished) × Meets r.width (recipe_lines r) s (after q.steps q.clocks c)) is (f.end, f.meets))

-- ---- nothing is left open

-- the registers that the rule's numbers give are those of the state
pub ruled_registers : (w : ℕ) → is_width w ≡ true → (r : Account) (s t : State) → Ruled w r s t → registers_of w r.numbers ≡ t.d
ruled_registers w e r s t h = ap (registers_of w) (sym h.numbers) ∙ registers_back w t.d (width_all (λ w. 8 / w * w ≡ 8) refl refl refl w e) h.longs

-- two runs that meet the rule and end alike differ in N, Z, V and C alone, and that only where the rule doesn't tell them
pub meets_one : (w : ℕ) → is_width w ≡ true → (ls : List Line) (s : State) (r q : Ran) → Meets w ls s r → Meets w ls s q → r.end ≡ q.end
    → r.state.flags ≡ q.state.flags → r ≡ q
meets_one w e ls s r q h g ends same =
    let d : r.state.d ≡ q.state.d = sym (ruled_registers w e _ s r.state h.rule) ∙ ruled_registers w e _ s q.state g.rule in
    let a : r.state.a ≡ q.state.a = h.rule.addresses ∙ sym g.rule.addresses in λ i. record {
      end = ends i;
      state = record { d = d i; a = a i; flags = same i };
      next = (h.next ∙ sym g.next) i;
      steps = (h.steps ∙ sym g.steps) i;
      clocks = (h.clocks ∙ sym g.clocks) i;
    }

pub meets_x : (w : ℕ) (ls : List Line) (s : State) (r q : Ran) → Meets w ls s r → Meets w ls s q → r.state.flags.x ≡ q.state.flags.x
meets_x w ls s r q h g = h.rule.x ∙ sym g.rule.x

pub meets_flags : (w : ℕ) (ls : List Line) (s : State) (f : Flags) (r q : Ran) → (rules_of w ls (account_of w s)).codes ≡ Some f → Meets w ls s r → Meets w ls s q
    → r.state.flags ≡ q.state.flags
meets_flags w ls s f r q e h g = told r h ∙ sym (told q g)
  where
    told : (r : Ran) → Meets w ls s r → r.state.flags ≡ f
    told r h = subst (λ (c : Option Flags). Holds c r.state.flags) e h.rule.codes
