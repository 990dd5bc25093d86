-- `rows::put_eight` meets its contract: a turn of the loop writes one word. Assumes nothing.
use mathlib.Core.Path.{◌∙◌}
use Prim.Native.Nat.{◌+◌, ◌*◌, ◌<◌}
use native.Mathlib.Omega.{arith}
use lib.ListN.{length, length-set}
use Rattle.recipe_calls.proofs.Turns.{pasted}
use Rattle.recipe_calls.proofs.rows.put_eight.Goals as goal

pub loop-j-preserved : goal.loop-j-preserved
loop-j-preserved g c =
    let l = c.loop-j in
    let a = c.args in
    let h : l.j < length a.words = omega arith in
    let k : 8 * a.i + l.j < length a.row.now = omega arith in
    (l.invariant.0, length-set l.row (8 * a.i + l.j) _ ∙ l.invariant.1, pasted a.row.now l.row a.words (8 * a.i) l.j _ l.invariant.2 h k)
