-- `recipes::printer::print_refusal` meets its contract: its writers, one behind the other. Assumes nothing.
use Rattle.std.proofs.Common.{append_assoc, rules}
use Rattle.text.proofs.Writing.{next, ends}
use Rattle.recipes.specs.Printer.{refusal_text}
use Rattle.recipes.proofs.printer.print_refusal.Goals as goal

pub returns : goal.returns
unfolding refusal_text
returns c =
    rw (← c.from.ensures)
    (ends _ _ _ (rw c.from-2.ensures at (simp append_assoc at (next _ _ _ _ _ c.put_head.ensures (next _ _ _ _ _ c.number.ensures c.byte.ensures)))) (search rules))
