-- `Writer::bytes` meets its contract: a turn of the loop writes one byte behind the others. Assumes nothing.
use Rattle.std.proofs.Common.{ℕ, add-one, take-suc}
use Rattle.text.proofs.Writing.{next, writes_none}
use Rattle.text.proofs.writers.Writer.bytes.Goals as goal

pub loop-b-init : goal.loop-b-init
loop-b-init c = writes_none _

pub loop-b-preserved : goal.loop-b-preserved
loop-b-preserved c = rw (add-one, take-suc {A = ℕ} _ _ 0 c.loop-b-test.true) (next _ _ _ _ _ c.loop-b.invariant c.byte.ensures)
