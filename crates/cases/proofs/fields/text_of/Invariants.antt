-- `fields::text_of` is safe: the text has room. Assumes nothing.
use Rattle.std.proofs.Common.{length, ◌≤◌}
use Rattle.cases.proofs.fields.text_of.Given as goal

abbrev pub invariant-loop-b : goal.invariant-loop-b
invariant-loop-b l = l.length ≤ length l.out
