-- `recipes::translator::lay_line` meets its contract: a turn of the loop lays one step. Assumes nothing.
use Rattle.recipes.proofs.Laying.{line_spot, line_next, line_all}
use Rattle.recipes.proofs.translator.lay_line.Goals as goal

pub step-requires : goal.step-requires
step-requires c = rw c.of-job.ensures (line_spot _ _ _ _ c.requires c.loop-j-test.true)

pub loop-j-preserved : goal.loop-j-preserved
loop-j-preserved c =
    rw c.loop-j.invariant (line_next _ _ _ _ c.requires _ _ c.loop-j-test.true (rw (c.step.ensures, c.of-job.ensures) at c.with_line.ensures))

pub returns : goal.returns
returns c = rw c.loop-j.invariant (line_all _ _ _ _ c.requires _ c.loop-j-test.false)
