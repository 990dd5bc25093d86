-- `recipes::reader::read_width` meets its contract: behind the word and its tab stands one digit. Assumes nothing.
use mathlib.Core.Path.{sym, ◌∙◌}
use Rattle.recipes.proofs.Digits.{width_stripped, width_kept}
use Rattle.recipes.proofs.reader.read_width.Goals as goal

pub returns-in_err-field : goal.returns-in_err-field
returns-in_err-field c = let h = rw c.as_slice.ensures at c.in_err-field.ensures.cases in c.from_residual.ensures ∙ sym (width_kept _ h)

pub returns : goal.returns
returns c =
    let h = rw c.as_slice.ensures at c.in_ok-field.ensures.cases in
    c.width_digit.ensures ∙ rw c.digit_of.ensures (sym (width_stripped _ _ h.0 h.1))
