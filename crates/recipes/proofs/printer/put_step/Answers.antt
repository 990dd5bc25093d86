-- `recipes::printer::put_step` meets its contract: its writers, one behind the other. Assumes nothing.
use Rattle.recipes.specs.Printer.{step_text}
use Rattle.text.proofs.Writing.{next}
use Rattle.recipes.proofs.printer.put_step.Goals as goal

pub returns : goal.returns
unfolding step_text
returns c =
    next _ _ _ _ _ c.decimal.ensures
    (next _ _ _ _ _ (rw c.operation_name.ensures at c.put_name.ensures)
    (next _ _ _ _ _ (rw c.size_name.ensures at c.put_name-2.ensures)
    (next _ _ _ _ _ (rw c.source.ensures at c.put_operand.ensures)
    (next _ _ _ _ _ (rw c.destination.ensures at c.put_operand-2.ensures) (next _ _ _ _ _ (rw c.from.ensures at c.number.ensures) c.byte.ensures)))))
