-- `recipes::reader::read_fields` meets its contract: what stands before the first tab is the verb, and what stands behind it are the numbers.
-- Assumes nothing.
use mathlib.Core.Bool.{true, false}
use mathlib.Core.Path.{◌≡◌, sym, ◌∙◌}
use Rattle.std.specs.Prelude.{Some}
use borrow.Author.Rules.{rules}
use Rattle.recipes.specs.Recipe.{takes_two}
use Rattle.text.specs.Text.{before}
use Rattle.text.proofs.Texts.{first_by}
use Rattle.recipes.proofs.Accepting.{cond_same}
use Rattle.recipes.proofs.Columns.{past_first}
use Rattle.recipes.proofs.Digits.{handed_on, some_digit, no_digit}
use Rattle.recipes.specs.Reader.{verb_of}
use Rattle.recipes.proofs.reader.read_fields.Goals as goal
use Rattle.recipes.proofs.reader.read_fields.Goals.{In_ok-verb}

pub slice_bounds-verb_of-end : goal.slice_bounds-verb_of-end
slice_bounds-verb_of-end c =
    let f = first_by c.first-tab.ensures in
    let within = f.within in
    let counted = f.counted in
    search rules

-- the verb that was found
known : (c : In_ok-verb) → verb_of (before 9 c.args.row.now) ≡ Some c.in_ok-verb.verb
known c = rw ((first_by c.first-tab.ensures).front, ← c.verb_of.ensures) (some_digit _ _ _ (sym c.ok_or.ensures.value ∙ c.in_ok-verb.was))

pub returns-in_err-verb : goal.returns-in_err-verb
returns-in_err-verb c =
    let no = no_digit _ _ _ (sym c.ok_or.ensures.value ∙ c.in_err-verb.was) in
    handed_on _ _ c.from_residual.ensures.1 ∙ rw ((first_by c.first-tab.ensures).front, ← c.verb_of.ensures, no.0, no.1, c.at.ensures)

pub overflow_add-at : goal.overflow_add-at
overflow_add-at c = let within = (first_by c.first-tab.ensures).within in search rules

pub returns-then-row-tab : goal.returns-then-row-tab
returns-then-row-tab c =
    let f = first_by c.first-tab.ensures in
    rw (known (goal.at.returns-then-row-tab c).In_ok-verb, past_first (before 9 c.args.row.now), ← c.first-tab.ensures, f.none c.if-row-tab.true, c.at-then-row-tab.ensures) (sym (cond_same (takes_two c.in_ok-verb.verb) _))

pub returns-then-way_of : goal.returns-then-way_of
returns-then-way_of c =
    let f = first_by c.first-tab.ensures in
    let two : takes_two c.in_ok-verb.verb ≡ true = rw c.way_of.ensures at c.if-way_of.true in
    rw (known (goal.at.returns-then-way_of c).In_ok-verb, past_first (before 9 c.args.row.now), ← c.first-tab.ensures, f.some c.if-row-tab.false, two) c.read_two.ensures

pub returns-else-way_of : goal.returns-else-way_of
returns-else-way_of c =
    let f = first_by c.first-tab.ensures in
    let one : takes_two c.in_ok-verb.verb ≡ false = rw c.way_of.ensures at c.if-way_of.false in
    rw (known (goal.at.returns-else-way_of c).In_ok-verb, past_first (before 9 c.args.row.now), ← c.first-tab.ensures, f.some c.if-row-tab.false, one) c.read_one.ensures
