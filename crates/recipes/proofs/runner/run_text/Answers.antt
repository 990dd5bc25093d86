-- `recipes::runner::run_text` meets its contract: a recipe that is run, or a refusal. Assumes nothing.
use mathlib.Core.Path.{sym, ◌∙◌}
use Rattle.recipes.proofs.Digits.{handed_on}
use Rattle.recipes.proofs.RunByRule.{text_run, text_refused}
use Rattle.recipes.proofs.runner.run_text.Goals as goal

pub returns-in_err-read : goal.returns-in_err-read
returns-in_err-read c = handed_on _ _ c.from_residual.ensures.1 ∙ text_refused _ _ _ (sym c.in_err-read.ensures)

pub returns : goal.returns
returns c = c.run_recipe.ensures ∙ text_run _ _ _ (sym c.in_ok-read.ensures)
