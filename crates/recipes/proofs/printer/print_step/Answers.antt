-- `recipes::printer::print_step` meets its contract: what its writer left in the slice. Assumes nothing.
use Rattle.std.proofs.Common.{rules}
use Rattle.text.proofs.Writing.{ends}
use Rattle.recipes.proofs.printer.print_step.Goals as goal

pub returns : goal.returns
returns c = ends _ _ _ c.put_step.ensures (search rules)
