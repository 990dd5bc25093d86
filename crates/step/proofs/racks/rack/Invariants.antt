-- The loop of `rack`: the first `i` slots of both rows are of the single runs, and all else is as it was (`row_at`). Assumes nothing.
use Rattle.std.proofs.Common.{◌≡◌, take}
use Rattle.step.specs.Perform.{perform_of}
use Rattle.step.specs.Rack.{state_of, boxed_of, runs_of}
use Rattle.step.proofs.Boxes.{row_at}
use Rattle.step.proofs.racks.rack.Given as goal

abbrev pub invariant-loop-i : goal.invariant-loop-i
invariant-loop-i l =
    let runs = runs_of perform_of l.listing (take l.boxes l.fn.sets) l.starts l.budget in
    (l.sets ≡ row_at state_of runs l.fn.sets l.i) × (l.answers ≡ row_at boxed_of runs l.fn.answers l.i)
