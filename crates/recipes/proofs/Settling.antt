-- Laws by which a translation in an array is that into any row of slots. Assumes nothing.
--     ready           what `judge` answers is ready to be laid out
--     laid            and laid out it is the translation into blank slots
--     translate_lent  and copied from there it is the translation into the slots that are lent
--     blanks_count    a translation in an array has at most `steps_max` steps
--     blanks_hold     and no more than the array
use Prim.Native.Nat.{ℕ, ◌≤◌, ◌<◌, min}
use mathlib.Core.Bool.{cond}
use mathlib.Core.List.{List, ◌++◌}
use mathlib.Core.Path.{◌≡◌, refl, sym, ap, ◌∙◌, subst}
use native.Mathlib.Omega.{arith}
use borrow.Author.Tests.{le-leb, lt-leb, le-ltb, lt-ltb}
use native.Mathlib.Decide.{dec_le}
use lib.Dec.{leb, ltb}
use lib.ListN.{length, take, drop, length-append, length-take, length-replicate}
use lib.Seq.{take_at, length-take-le}
use Rattle.std.specs.Prelude.{Result, Ok, Err}
use Rattle.step.specs.declared.forms.Step.{Step}
use Rattle.step.specs.Run.{array_slots}
use Rattle.recipes.specs.declared.types.Line.{Line}
use Rattle.recipes.specs.declared.types.Recipe.{Recipe}
use Rattle.recipes.specs.declared.types.Refusal.TheVariants.{NoSpace}
use Rattle.recipes.specs.declared.types.Refused.{Refused}
use Rattle.recipes.specs.declared.types.Listing.{Listing}
use Rattle.recipes.specs.Recipe.{lines_max, at_line, recipe_lines}
use Rattle.step.specs.Lent.{over}
use Rattle.recipes.specs.Listing.{steps_max, numbered_of, steps_of, Translated, translated, translate_of, listed, listing_in, blanks, array_of}
use Rattle.recipes.specs.Making.{judge_of, Layable}
use Rattle.recipes.proofs.Steps.{numbered_steps, steps_most}
use Rattle.recipes.proofs.Accepting.{width_is, tests_agree}

-- a recipe's lines take at most `steps_max` steps
pub few_steps : (r : Recipe) → r.width ≤ 4 → r.count ≤ lines_max → steps_of r.width (recipe_lines r) ≤ steps_max
few_steps r w c =
    let some : length (recipe_lines r) ≡ min r.count (length r.lines) = length-take r.count r.lines in
    let most = steps_most r.width (recipe_lines r) w in omega arith

-- and an array has slots for as many
slots_enough : steps_max ≤ array_slots
slots_enough = omega arith

-- what was judged is ready to be laid out
abbrev Ready : Recipe → Result ℕ Refused → Type 0
Ready r (Ok count) = Layable r.width (recipe_lines r)
Ready r (Err k) = Unit {0}

judged_ready : (r : Recipe) → Ready r (judge_of r)
judged_ready r =
    tests_agree (λ (t _ : Result ℕ Refused). Ready r t) Err Err (λ k. tt) r (Ok (steps_of r.width (recipe_lines r)))
    (Ok (steps_of r.width (recipe_lines r)))
    (λ g. record { small = (width_is r.width g.width).1; named = g.lines; few = let some = length-take r.count r.lines in let few = g.few in omega arith })

pub ready : (r : Recipe) (count : ℕ) → judge_of r ≡ Ok count → Layable r.width (recipe_lines r)
ready r count e = subst (Ready r) e (judged_ready r)

-- the translation that stands where all tests are passed
abbrev pub whole : (w : ℕ) (ls : List Line) (slots : List Step) → Translated
whole w ls slots = cond (leb (steps_of w ls) (length slots)) (translated (Ok (steps_of w ls)) (over (numbered_of w 2 ls) slots)) (translated (Err (at_line NoSpace 0)) slots)

-- where there is room, and where there is none
pub whole_fits : (w : ℕ) (ls : List Line) (slots : List Step) → steps_of w ls ≤ length slots → whole w ls slots ≡ translated (Ok (steps_of w ls)) (over (numbered_of w 2 ls) slots)
whole_fits w ls slots h = rw (le-leb (steps_of w ls) (length slots) h)

whole_short : (w : ℕ) (ls : List Line) (slots : List Step) → length slots < steps_of w ls → whole w ls slots ≡ translated (Err (at_line NoSpace 0)) slots
whole_short w ls slots h = rw (lt-leb (steps_of w ls) (length slots) h)

pub blanks_fit : (r : Recipe) → r.width ≤ 4 → r.count ≤ lines_max → steps_of r.width (recipe_lines r) ≤ length blanks
blanks_fit r w c = rw length-replicate (omega (arith, few_steps r w c, slots_enough))

-- what was judged, laid out in an array
abbrev laid_by : Recipe → Result ℕ Refused → Result Listing Refused
laid_by r (Ok count) = Ok (listed count (over (numbered_of r.width 2 (recipe_lines r)) blanks))
laid_by r (Err k) = Err k

laid_all : (r : Recipe) → laid_by r (judge_of r) ≡ array_of r
unfolding translate_of
laid_all r =
    tests_agree (λ (t : Result ℕ Refused) (l : Translated). laid_by r t ≡ listing_in l) Err (λ k. translated (Err k) blanks) (λ k. refl) r (Ok (steps_of r.width (recipe_lines r)))
    (whole r.width (recipe_lines r) blanks) (λ g. rw (whole_fits r.width (recipe_lines r) blanks (blanks_fit r (width_is r.width g.width).1 g.few)))

pub laid : (r : Recipe) (count : ℕ) → judge_of r ≡ Ok count → Ok (listed count (over (numbered_of r.width 2 (recipe_lines r)) blanks)) ≡ array_of r
laid r count e = ap (laid_by r) (sym e) ∙ laid_all r

pub unlaid : (r : Recipe) (k : Refused) → judge_of r ≡ Err k → Err k ≡ array_of r
unlaid r k e = ap (laid_by r) (sym e) ∙ laid_all r

-- a listing that was made in an array has its steps there, and no more than `steps_max`
pub record Fills (l : Listing) : Type 0 where
  pub few : l.count ≤ steps_max
  pub held : l.count ≤ length l.steps

abbrev Filled : Result Listing Refused → Type 0
Filled (Ok l) = Fills l
Filled (Err k) = Unit {0}

filled : (r : Recipe) → Filled (array_of r)
unfolding translate_of
filled r =
    tests_agree (λ (t _ : Translated). Filled (listing_in t)) (λ k. translated (Err k) blanks) (λ k. translated (Err k) blanks) (λ k. tt) r
    (whole r.width (recipe_lines r) blanks) (whole r.width (recipe_lines r) blanks) (λ g. there (width_is r.width g.width) g.few)
  where
    there : (0 < r.width) × (r.width ≤ 4) → r.count ≤ lines_max → Filled (listing_in (whole r.width (recipe_lines r) blanks))
    there w c =
        let all = numbered_steps r.width 2 (recipe_lines r) in
        rw (whole_fits r.width (recipe_lines r) blanks (blanks_fit r w.1 c))
        (record { few = few_steps r w.1 c; held = rw length-append (omega arith) })

pub blanks_count : (r : Recipe) (l : Listing) → array_of r ≡ Ok l → l.count ≤ steps_max
blanks_count r l e = (subst Filled e (filled r)).few

pub blanks_hold : (r : Recipe) (l : Listing) → array_of r ≡ Ok l → l.count ≤ length l.steps
blanks_hold r l e = (subst Filled e (filled r)).held

-- what the lent translator tells, and its slots, from a listing that was made in an array
abbrev pub settled : Listing → List Step → Translated
settled l slots =
    cond (ltb (length slots) l.count) (translated (Err (at_line NoSpace 0)) slots)
    (translated (Ok l.count) (take l.count l.steps ++ drop l.count slots))

abbrev pub copied : Result Listing Refused → List Step → Translated
copied (Ok l) slots = settled l slots
copied (Err k) slots = translated (Err k) slots

pub translate_lent : (r : Recipe) (slots : List Step) → copied (array_of r) slots ≡ translate_of r slots
unfolding translate_of
translate_lent r slots =
    tests_agree (λ (made t : Translated). copied (listing_in made) slots ≡ t) (λ k. translated (Err k) blanks) (λ k. translated (Err k) slots)
    (λ k. refl) r (whole r.width (recipe_lines r) blanks) (whole r.width (recipe_lines r) slots) (λ g. there (width_is r.width g.width) g.few)
  where
    room : Dec (steps_of r.width (recipe_lines r) ≤ length slots) → settled (listed (steps_of r.width (recipe_lines r)) (over (numbered_of r.width 2 (recipe_lines r)) blanks)) slots ≡ whole r.width (recipe_lines r) slots
    room (yes h) =
        rw (
          whole_fits r.width (recipe_lines r) slots h,
          le-ltb (length slots) (steps_of r.width (recipe_lines r)) h,
          take_at (numbered_of r.width 2 (recipe_lines r)) (drop (length (numbered_of r.width 2 (recipe_lines r))) blanks) (steps_of r.width (recipe_lines r)) (numbered_steps r.width 2 (recipe_lines r)),
          numbered_steps r.width 2 (recipe_lines r),
        )
    room (no h) =
        rw (whole_short r.width (recipe_lines r) slots (omega arith), lt-ltb (length slots) (steps_of r.width (recipe_lines r)) (omega arith))

    there : (0 < r.width) × (r.width ≤ 4) → r.count ≤ lines_max → copied (listing_in (whole r.width (recipe_lines r) blanks)) slots ≡ whole r.width (recipe_lines r) slots
    there w c = rw (whole_fits r.width (recipe_lines r) blanks (blanks_fit r w.1 c)) (room (dec_le (steps_of r.width (recipe_lines r)) (length slots)))

-- the same by cases, in the words of the code: a refusal, no room, and a copy
pub lent_refused : (r : Recipe) (slots : List Step) (k : Refused) → array_of r ≡ Err k → translated (Err k) slots ≡ translate_of r slots
lent_refused r slots k e = ap (λ (l : Result Listing Refused). copied l slots) (sym e) ∙ translate_lent r slots

module _ (r : Recipe) (slots : List Step) (l : Listing) (e : array_of r ≡ Ok l) where
  settled_lent : settled l slots ≡ translate_of r slots
  settled_lent = ap (λ (l : Result Listing Refused). copied l slots) (sym e) ∙ translate_lent r slots

  many : length (take l.count l.steps) ≡ l.count
  many = length-take-le l.count l.steps (blanks_hold r l e)

  pub lent_short : length slots < length (take l.count l.steps) → translated (Err (at_line NoSpace 0)) slots ≡ translate_of r slots
  lent_short h = let n = many in rw (← settled_lent, lt-ltb (length slots) l.count (omega arith))

  pub lent_copied : length (take l.count l.steps) ≤ length slots
      → translated (Ok (length (take l.count l.steps))) (take l.count l.steps ++ drop (length (take l.count l.steps)) slots) ≡ translate_of r slots
  lent_copied h = let n = many in rw (← settled_lent, le-ltb (length slots) l.count (omega arith), many)
