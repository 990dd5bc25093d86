-- The loop of `run_in`: from where the run stands it comes to the answer of the whole run (`answer_of`), and it stands between its start and its last
-- place (`Runs`). The measure: the places that are left, and one while the run goes on (`left_in`). Assumes nothing.
use Rattle.std.proofs.Common.{◌≡◌, length}
use Rattle.step.specs.Perform.{perform_of}
use Rattle.step.specs.Run.{run_of}
use Rattle.step.specs.Lent.{held}
use Rattle.step.proofs.Running.{answer_of, Runs, left_in}
use Rattle.step.proofs.lent.run_in.Given as goal

abbrev pub invariant-loop-on : goal.invariant-loop-on
invariant-loop-on l =
    (answer_of perform_of l.listing l.start l.stop l.d l.a l.on ≡ run_of perform_of l.listing (held l.fn.d l.fn.a l.fn.flags) l.start l.budget)
    × Runs (length l.listing) l.start l.stop l.on

abbrev pub decreases-loop-on : goal.decreases-loop-on
decreases-loop-on l = left_in l.stop l.on
