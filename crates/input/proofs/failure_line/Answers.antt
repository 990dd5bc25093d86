-- `failure_line` meets its contract: the writer's next place is a count of the line. Assumes nothing.
use Rattle.std.proofs.Common.{rules}
use Rattle.text.proofs.Writing.{next, ends, wrote_counts}
use Rattle.input.proofs.failure_line.Goals as goal

pub returns : goal.returns
returns c =
    wrote_counts _ _ _
    (ends _ _ _ (next _ _ _ _ _ (next _ _ _ _ _ (next _ _ _ _ _ c.bytes.ensures c.bytes-2.ensures) c.bytes-3.ensures) c.byte.ensures) (search rules))
    (search rules)
