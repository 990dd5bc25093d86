-- `recipes::reader::read_two` meets its contract: the first tab parts two fields, and a second one tells a third.
-- Assumes nothing.
use Prim.Native.Nat.{◌+◌}
use mathlib.Core.Path.{◌≡◌, sym, ◌∙◌}
use lib.ListN.{take}
use borrow.Author.Rules.{rules}
use Rattle.text.specs.Text.{parts, digit_of}
use Rattle.text.proofs.Texts.{from, first_by}
use Rattle.recipes.specs.Reader.{two_fields, with_two}
use Rattle.recipes.proofs.Digits.{handed_on, some_digit, no_digit}
use Rattle.recipes.proofs.reader.read_two.Goals as goal
use Rattle.recipes.proofs.reader.read_two.Goals.{Else-end-second}

-- with one tab in the fields
two : (c : Else-end-second)
    → let a = c.args in
    two_fields a.verb a.at (parts 9 a.fields.now)
    ≡ with_two a.verb (a.at + 1) (a.at + 1 + c.first-tab.result + 1) (digit_of (take c.first-tab.result a.fields.now)) (digit_of (from (c.first-tab.result + 1) a.fields.now))
two c =
    let f = first_by c.first-tab.ensures in
    let g = first_by c.first-end.ensures in
    rw (f.some c.if-fields-tab.false, g.none c.if-end-second.false, g.whole c.if-end-second.false, ← c.first-tab.ensures, f.front)

pub overflow_add-behind : goal.overflow_add-behind
overflow_add-behind c = let within = (first_by c.first-tab.ensures).within in search rules

pub returns-then-fields-tab : goal.returns-then-fields-tab
returns-then-fields-tab c = let f = c.first-tab.ensures in rw ((first_by f).none c.if-fields-tab.true, ← f, c.at.ensures)

pub returns-then-end-second : goal.returns-then-end-second
returns-then-end-second c =
    rw ((first_by c.first-tab.ensures).some c.if-fields-tab.false, (first_by c.first-end.ensures).some c.if-end-second.true, ← c.first-tab.ensures, ← c.first-end.ensures, c.at-then-end-second.ensures)

pub returns-in_err-a : goal.returns-in_err-a
returns-in_err-a c =
    let no = no_digit _ _ _ (sym c.ok_or.ensures.value ∙ c.in_err-a.was) in
    handed_on _ _ c.from_residual.ensures.1 ∙ rw (two (goal.at.returns-in_err-a c).Else-end-second, ← c.digit_of.ensures, no.0, no.1, c.at-2.ensures)

pub returns-in_err-b : goal.returns-in_err-b
returns-in_err-b c =
    let no = no_digit _ _ _ (sym c.ok_or-2.ensures.value ∙ c.in_err-b.was) in
    handed_on _ _ c.from_residual-in_err-b.ensures.1 ∙ rw (two (goal.at.returns-in_err-b c).Else-end-second, ← c.digit_of.ensures, some_digit _ _ _ (sym c.ok_or.ensures.value ∙ c.in_ok-a.was), ← c.digit_of-2.ensures, no.0, no.1, c.at-3.ensures)

pub returns : goal.returns
returns c =
    rw (
      two (goal.at.returns c).Else-end-second,
      ← c.digit_of.ensures,
      some_digit _ _ _ (sym c.ok_or.ensures.value ∙ c.in_ok-a.was),
      ← c.digit_of-2.ensures,
      some_digit _ _ _ (sym c.ok_or-2.ensures.value ∙ c.in_ok-b.was),
    )
