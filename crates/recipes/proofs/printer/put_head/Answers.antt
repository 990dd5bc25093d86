-- `recipes::printer::put_head` meets its contract: its writers, one behind the other. Assumes nothing.
use Rattle.text.proofs.Writing.{next}
use Rattle.recipes.proofs.printer.put_head.Goals as goal

pub returns : goal.returns
returns c = next _ _ _ _ _ c.bytes.ensures (next _ _ _ _ _ c.number.ensures c.number-2.ensures)
