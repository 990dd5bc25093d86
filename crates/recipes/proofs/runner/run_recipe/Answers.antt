-- `recipes::runner::run_recipe` meets its contract: a refusal, or what the rule makes of the state. Assumes nothing.
use mathlib.Core.Path.{◌≡◌, sym, ◌∙◌}
use Prim.Native.Nat.{ℕ}
use lib.ListN.{length, get_or}
use mir.Syntax.{w32}
use mir.Val.{Fits}
use borrow.Author.Rules.{rules}
use Rattle.recipes.proofs.Steps.{mapped}
use Rattle.recipes.specs.Demand.{EightLongs}
use Rattle.recipes.proofs.Digits.{handed_on}
use Rattle.recipes.proofs.RunByRule.{recipe_refused, run_ruled}
use Rattle.recipes.proofs.runner.run_recipe.Goals as goal

pub returns-in_err-made : goal.returns-in_err-made
returns-in_err-made c = handed_on _ _ c.from_residual.ensures.1 ∙ recipe_refused _ _ _ (sym c.in_err-made.ensures)

pub returns : goal.returns
returns c =
    let g = c.well_formed.1.0 in
    let count : length c.args.state.d ≡ 8 = search mapped in
    let fits : (i : ℕ) → Fits w32 (get_or c.args.state.d i 0) = λ i. search rules in
    let ok : EightLongs c.args.state.d = record { count = count; each = λ i. (fits i).fits } in
    run_ruled _ _ _ _ _ (sym c.in_ok-made.ensures) ok (rw c.steps.ensures at c.run-ran.ensures) (rw c.lines.ensures at c.codes_after.ensures)
