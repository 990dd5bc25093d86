-- `recipes::reader::read_lines` meets its contract: a turn of the loop reads one line, by `proofs/LineByLine.antt`.
-- Assumes nothing.
use Prim.Native.Nat.{ℕ, ◌+◌, ◌<◌, ◌≤◌}
use mathlib.Core.Path.{◌≡◌, sym, ap, ◌∙◌}
use mathlib.Core.List.{List, [], ◌∷◌, ◌++◌}
use native.Mathlib.Omega.{arith}
use lib.ListN.{length, length-append}
use borrow.Author.Rules.{rules}
use Rattle.std.proofs.lemmas.Bool.Decides.{nat_tests}
use Rattle.recipes.specs.declared.types.Line.{Line}
use Rattle.recipes.specs.Reader.{or_slip, lines_of}
use Rattle.text.specs.Text.{before, after}
use Rattle.recipes.specs.Recipe.{lines_max}
use Rattle.text.proofs.Texts.{from, first_by}
use Rattle.recipes.specs.Recipe.{at_column}
use Rattle.std.specs.Prelude.{Ok, Err}
use Rattle.recipes.proofs.Columns.{past_first}
use Rattle.recipes.proofs.Digits.{handed_on, mapped_err, mapped_ok}
use Rattle.recipes.proofs.LineByLine.{lines_many, lines_cut, lines_next, lines_done, padded_more}
use Rattle.recipes.proofs.reader.read_lines.Goals as goal
use Rattle.recipes.proofs.reader.read_lines.Goals.{After-read_line}
use Rattle.recipes.proofs.reader.read_lines.Invariants.{SoFar}

-- past the test on the count
room : {width count : ℕ} {text left : List ℕ} {lines : List Line} → (s : SoFar width text lines count left) → (count ≡ lines_max → ⊥) → length s.ls < lines_max
room s n =
    let m = s.many in
    let w = s.within in
    omega (arith, n)

-- a whole line was read
turn : (c : After-read_line)
    → let w = c.args.width in
    let left = c.loop-left.left.now in
    let rest = from (c.first-end.result + 1) left in
    lines_of w [] (before 10 c.args.text.now) (after 10 c.args.text.now)
    ≡ or_slip c.read_line.result (c.loop-left.count + 2) (λ x. lines_of w (c.loop-left.invariant.ls ++ (x ∷ [])) (before 10 rest) (after 10 rest))
turn c =
    let s = c.loop-left.invariant in
    let r = room c.loop-left.invariant c.if-count-eq-LINES_MAX.false in
    rw (s.rest, (first_by c.first-end.ensures).some c.if-left-end.false, lines_next, (first_by c.first-end.ensures).front, ← c.read_line.ensures, ← s.many)

pub returns-then-count-eq-LINES_MAX : goal.returns-then-count-eq-LINES_MAX
returns-then-count-eq-LINES_MAX c =
    let s = c.loop-left.invariant in
    let left : 0 < length c.loop-left.left.now = search (rules, nat_tests) in
    let e : length s.ls ≡ lines_max = sym s.many ∙ c.if-count-eq-LINES_MAX.true in
    rw (s.rest, lines_many _ _ _ left e, ← s.many, c.at_line.ensures)

pub overflow_add-end : goal.overflow_add-end
overflow_add-end c = let within = (first_by c.first-end.ensures).within in search rules

pub returns-then-left-end : goal.returns-then-left-end
returns-then-left-end c =
    let s = c.loop-left.invariant in
    let left : 0 < length c.loop-left.left.now = search (rules, nat_tests) in
    let h = c.if-left-end.true in
    let whole = (first_by c.first-end.ensures).whole h in
    let e : c.first-end.result ≡ length c.loop-left.left.now = c.first-end.ensures ∙ ap length whole in
    rw (s.rest, (first_by c.first-end.ensures).none h, whole, lines_cut _ _ _ left (room c.loop-left.invariant c.if-count-eq-LINES_MAX.false), ← s.many, past_first, ← e, c.at_column.ensures)

pub returns-in_err-lines : goal.returns-in_err-lines
returns-in_err-lines c =
    let slip = mapped_err c.read_line.result c.map_err.result _ c.in_err-lines.field-0.0 c.map_err.ensures.cases c.in_err-lines.was in
    let made = slip.1.1 in
    let is : c.in_err-lines.field-0.0 ≡ at_column slip.0.refusal (c.loop-left.count + 2) slip.0.column = search rules in
    handed_on _ _ c.from_residual.ensures.1 ∙ (ap Err is ∙ sym (rw slip.1.0 at (turn (goal.at.returns-in_err-lines c).After-read_line)))

pub loop-left-preserved : goal.loop-left-preserved
loop-left-preserved c =
    let s = c.loop-left.invariant in
    let l = c.in_ok-lines.field-0 in
    let read : c.read_line.result ≡ Ok l = mapped_ok _ _ _ _ c.map_err.ensures.cases c.in_ok-lines.was in
    record {
      ls = s.ls ++ (l ∷ []);
      many = rw length-append (omega arith);
      within = search rules;
      short = search rules;
      stored = rw (s.stored, s.many) (padded_more s.ls l (room c.loop-left.invariant c.if-count-eq-LINES_MAX.false));
      rest = rw (turn (goal.at.loop-left-preserved c).After-read_line, read);
    }

pub returns : goal.returns
returns c =
    let s = c.loop-left.invariant in
    let none : length c.loop-left.left.now ≤ 0 = search (rules, nat_tests) in
    rw (s.rest, lines_done _ _ _ none, s.many, s.stored)
