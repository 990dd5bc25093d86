-- `recipes::runner::codes_after` meets its contract: the last line decides. Assumes nothing.
use mathlib.Core.Path.{sym}
use Rattle.recipes.proofs.RunByRule.{codes_found}
use Rattle.recipes.proofs.runner.codes_after.Goals as goal

pub returns : goal.returns
returns c = rw (codes_found _ _ c.args.flags (sym c.in-Some.ensures.value), ← c.way_of.ensures) c.then_some.ensures
