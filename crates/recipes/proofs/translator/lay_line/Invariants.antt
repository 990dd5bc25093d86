use mathlib.Core.List.{map}
use mathlib.Core.Path.{◌≡◌}
use lib.ListN.{take}
use Rattle.step.specs.Lent.{over}
use Rattle.step.specs.Lines.{with_line}
use Rattle.recipes.specs.Listing.{line_steps}
use Rattle.recipes.proofs.translator.lay_line.Given as goal

-- the first j slots hold the line's steps
abbrev pub invariant-loop-j : goal.invariant-loop-j
invariant-loop-j l = l.slots ≡ over (take l.j (map (with_line l.text_line) (line_steps l.width l.fn.line))) l.initial.slots
