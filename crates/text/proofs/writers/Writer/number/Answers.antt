-- `Writer::number` meets its contract: its writers, one behind the other. Assumes nothing.
use Rattle.text.proofs.Writing.{next}
use Rattle.text.proofs.writers.Writer.number.Goals as goal

pub returns : goal.returns
returns c = next _ _ _ _ _ c.byte.ensures c.decimal.ensures
