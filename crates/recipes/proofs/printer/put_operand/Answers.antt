-- `recipes::printer::put_operand` meets its contract: a tab, and what the definition has for the operand. Assumes nothing.
use Rattle.text.proofs.Writing.{next}
use Rattle.recipes.proofs.printer.put_operand.Goals as goal

pub returns-in-Some : goal.returns-in-Some
returns-in-Some c = rw c.in-Some.is (next _ _ _ _ _ c.byte.ensures (rw c.from.ensures at c.number.ensures))

pub returns-in-None : goal.returns-in-None
returns-in-None c = rw c.in-None.is (next _ _ _ _ _ c.byte.ensures c.byte-in-None.ensures)
