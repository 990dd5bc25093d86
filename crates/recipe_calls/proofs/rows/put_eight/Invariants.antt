use Rattle.std.proofs.Common.{◌≡◌, ◌*◌, length}
use lib.Seq.{paste}
use Rattle.recipe_calls.proofs.rows.put_eight.Given as goal

abbrev pub invariant-loop-j : goal.invariant-loop-j
invariant-loop-j g l = (length l.words ≡ 8) × (length l.row ≡ length l.initial.row) × (l.row ≡ paste l.initial.row (8 * l.i) l.words l.j)
