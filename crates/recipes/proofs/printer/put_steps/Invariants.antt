-- A turn of the loop writes one line behind the others.
use Rattle.std.proofs.Common.{◌≡◌, take}
use Rattle.text.specs.Wrote.{wrote}
use Rattle.recipes.specs.Printer.{steps_text}
use Rattle.recipes.proofs.printer.put_steps.Given as goal

abbrev pub invariant-loop-k : goal.invariant-loop-k
invariant-loop-k l = l.w ≡ wrote l.initial.w (steps_text 0 (take l.k l.steps))
