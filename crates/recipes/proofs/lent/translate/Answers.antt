-- `recipes::lent::translate` meets its contract: what was translated in an array is copied into the row that is lent. Assumes nothing.
use mathlib.Core.Path.{sym}
use Rattle.recipes.proofs.Digits.{handed_on}
use Rattle.recipes.proofs.Settling.{lent_refused, lent_short, lent_copied}
use Rattle.recipes.proofs.lent.translate.Goals as goal

pub returns-in_err-made : goal.returns-in_err-made
returns-in_err-made c = rw (handed_on _ _ c.from_residual.ensures.1) (lent_refused _ _ _ (sym c.in_err-made.ensures))

pub returns-then-listing-steps : goal.returns-then-listing-steps
returns-then-listing-steps c =
    rw c.at_line.ensures (lent_short _ _ _ (sym c.in_ok-made.ensures) (rw c.steps-steps.ensures at c.if-listing-steps.true))

pub returns : goal.returns
returns c =
    rw (c.copy_from_slice.ensures.after, c.steps-steps.ensures) (lent_copied _ _ _ (sym c.in_ok-made.ensures) (rw c.steps-steps.ensures at c.if-listing-steps.false))
