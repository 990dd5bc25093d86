-- `recipes::printer::print` meets its contract: its writers, one behind the other. Assumes nothing.
use Rattle.std.proofs.Common.{◌≡◌, take, append_assoc, rules}
use Rattle.text.proofs.Writing.{next, ends}
use Rattle.step.specs.Run.{array_slots}
use Rattle.recipes.specs.Printer.{listing_text}
use Rattle.std.proofs.lemmas.List.{take_min}
use Rattle.recipes.proofs.printer.print.Goals as goal

pub returns : goal.returns
unfolding listing_text
returns c =
    let shown : take c.min.result c.args.steps.now ≡ take array_slots c.args.steps.now = rw c.min.ensures (take_min array_slots c.args.steps.now) in
    ends _ _ _
    (rw (c.from.ensures, c.clocks.ensures, shown) at
    (simp append_assoc at
    (next _ _ _ _ _ c.put_head.ensures
    (next _ _ _ _ _ c.byte.ensures
    (next _ _ _ _ _ c.put_steps.ensures
    (next _ _ _ _ _ c.bytes.ensures
    (next _ _ _ _ _ c.number.ensures c.byte-2.ensures)))))))
    (search rules)
