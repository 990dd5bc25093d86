-- `recipes::printer::put_steps` meets its contract: a turn of the loop writes one line behind the others. Assumes nothing.
use Rattle.std.proofs.Common.{◌<◌, length, take_all, arith}
use Rattle.text.proofs.Writing.{writes_none, next}
use Rattle.recipes.specs.Printer.{steps_text}
use Rattle.recipes.proofs.Printing.{steps_next}
use Rattle.recipes.proofs.printer.put_steps.Goals as goal

pub loop-k-init : goal.loop-k-init
unfolding steps_text
loop-k-init c = writes_none c.args.w.now

pub loop-k-preserved : goal.loop-k-preserved
loop-k-preserved c =
    let l = c.loop-k in
    let h : l.k < length c.args.steps.now = omega arith in
    rw (steps_next _ _ h) (next _ _ _ _ _ l.invariant c.put_step.ensures)

pub returns : goal.returns
returns c = rw (take_all c.loop-k.k c.args.steps.now c.loop-k-test.false) at c.loop-k.invariant
