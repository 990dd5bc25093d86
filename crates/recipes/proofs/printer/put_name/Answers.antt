-- `recipes::printer::put_name` meets its contract: its writers, one behind the other. Assumes nothing.
use Rattle.text.proofs.Writing.{next}
use Rattle.recipes.proofs.printer.put_name.Goals as goal

pub returns : goal.returns
returns c = next _ _ _ _ _ c.byte.ensures c.bytes.ensures
