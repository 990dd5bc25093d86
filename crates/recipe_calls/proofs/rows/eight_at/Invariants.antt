use Rattle.std.proofs.Common.{◌≡◌, ◌*◌, length, take, drop}
use Rattle.recipe_calls.proofs.rows.eight_at.Given as goal

abbrev pub invariant-loop-j : goal.invariant-loop-j
invariant-loop-j l = (length l.words ≡ 8) × (take l.j l.words ≡ take l.j (drop (8 * l.i) l.row))
