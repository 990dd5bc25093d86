-- `recipes::reader::read_one` meets its contract: a tab tells a second field; with none, the only field is the whole.
-- Assumes nothing.
use Prim.Native.Nat.{◌+◌}
use mathlib.Core.Path.{◌≡◌, sym, ◌∙◌}
use Rattle.text.proofs.Texts.{first_by}
use Rattle.text.specs.Text.{parts, digit_of}
use Rattle.recipes.specs.Reader.{one_field, with_one}
use Rattle.recipes.proofs.Digits.{handed_on, some_digit, no_digit}
use Rattle.recipes.proofs.reader.read_one.Goals as goal
use Rattle.recipes.proofs.reader.read_one.Goals.{Else-tab-fields}

one : (c : Else-tab-fields) → one_field c.args.verb c.args.at (parts 9 c.args.fields.now) ≡ with_one c.args.verb (c.args.at + 1) (digit_of c.args.fields.now)
one c = let f = first_by c.first-tab.ensures in rw (f.whole c.if-tab-fields.false, f.none c.if-tab-fields.false)

pub returns-then-tab-fields : goal.returns-then-tab-fields
returns-then-tab-fields c = let f = c.first-tab.ensures in rw ((first_by f).some c.if-tab-fields.true, ← f, c.at.ensures)

pub returns-in_err-a : goal.returns-in_err-a
returns-in_err-a c =
    let no = no_digit _ _ _ (sym c.ok_or.ensures.value ∙ c.in_err-a.was) in
    handed_on _ _ c.from_residual.ensures.1 ∙ rw (one (goal.at.returns-in_err-a c).Else-tab-fields, ← c.digit_of.ensures, no.0, no.1, c.at-2.ensures)

pub returns : goal.returns
returns c = rw (one (goal.at.returns c).Else-tab-fields, ← c.digit_of.ensures, some_digit _ _ _ (sym c.ok_or.ensures.value ∙ c.in_ok-a.was))
