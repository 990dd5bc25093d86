-- `recipes::translator::translate_array` meets its contract: what was judged is laid out. Assumes nothing.
use mathlib.Core.Path.{sym, refl}
use Rattle.std.proofs.lemmas.Result.{err_from_is_err_and}
use Rattle.recipes.proofs.Settling.{ready, laid, unlaid}
use Rattle.recipes.proofs.translator.translate_array.Goals as goal

pub returns-in_err-count : goal.returns-in_err-count
returns-in_err-count c =
    let p = err_from_is_err_and c.from_residual.result c.from_residual.ensures.1 in rw (p.1, p.2) (unlaid _ _ (sym c.in_err-count.ensures))

pub lay-requires : goal.lay-requires
lay-requires c = (rw c.lines.ensures (ready _ _ (sym c.in_ok-count.ensures)), rw c.blank-steps.ensures refl)

pub returns : goal.returns
returns c = rw (c.lay.ensures, c.lines.ensures) (laid _ _ (sym c.in_ok-count.ensures))
