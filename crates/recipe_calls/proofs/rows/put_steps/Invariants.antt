use Rattle.std.proofs.Common.{◌≡◌, map, take}
use Rattle.step.specs.Lent.{over}
use Rattle.recipe_calls.specs.Words.{step_word}
use Rattle.recipe_calls.proofs.rows.put_steps.Given as goal

abbrev pub invariant-loop-i : goal.invariant-loop-i
invariant-loop-i l = l.listing ≡ over (map step_word (take l.i l.steps)) l.initial.listing
