use Rattle.std.proofs.Common.{◌≡◌, map, length, take}
use Rattle.step.specs.Run.{array_slots}
use Rattle.recipe_calls.specs.Words.{step_of}
use Rattle.recipe_calls.proofs.rows.steps_of.Given as goal

abbrev pub invariant-loop-i : goal.invariant-loop-i
invariant-loop-i l = (length l.slots ≡ array_slots) × (take l.i l.slots ≡ map step_of (take l.i l.words))
