-- `recipes::reader::read` meets its contract: what stands before the first byte 10 is the width line, and what stands behind it are the lines.
-- Assumes nothing.
use mathlib.Core.Path.{sym, ◌∙◌}
use Rattle.recipes.specs.Reader.{read_of}
use Rattle.text.proofs.Texts.{first_by}
use Rattle.recipes.proofs.Digits.{handed_on, some_digit, no_digit}
use Rattle.recipes.proofs.Accepting.{width_is}
use Rattle.recipes.proofs.Agreeing.{line_width}
use Rattle.recipes.proofs.reader.read.Goals as goal

pub returns-then-text-end : goal.returns-then-text-end
unfolding read_of
returns-then-text-end c = rw ((first_by c.first-end.ensures).none c.if-text-end.true, c.at_line.ensures)

pub returns-in_err-width : goal.returns-in_err-width
unfolding read_of
returns-in_err-width c =
    let f = first_by c.first-end.ensures in
    let no = no_digit _ _ _ (sym c.ok_or.ensures.value ∙ c.in_err-width.was) in
    handed_on _ _ c.from_residual.ensures.1 ∙ rw (f.some c.if-text-end.false, f.front, ← c.read_width.ensures, no.0, no.1, c.at_line-2.ensures)

pub read_lines-requires : goal.read_lines-requires
read_lines-requires c =
    let wide = line_width _ _ (sym c.read_width.ensures ∙ some_digit _ _ _ (sym c.ok_or.ensures.value ∙ c.in_ok-width.was)) in (width_is _ wide).0

pub returns : goal.returns
unfolding read_of
returns c =
    let f = first_by c.first-end.ensures in
    rw (f.some c.if-text-end.false, f.front, ← c.read_width.ensures, some_digit _ _ _ (sym c.ok_or.ensures.value ∙ c.in_ok-width.was)) c.read_lines.ensures
