-- `recipes::translator::judge_lines` meets its contract: a turn of the loop passes or refuses one line, by the laws of Judging. Assumes nothing.
use Prim.Native.Nat.{◌+◌}
use mathlib.Core.Path.{◌≡◌, sym, ap, ◌∙◌}
use native.Mathlib.Omega.{arith}
use borrow.Author.Rules.{rules}
use Rattle.std.specs.Prelude.{Err}
use Rattle.recipes.specs.Recipe.{at_line}
use Rattle.recipes.proofs.Digits.{handed_on, mapped_err, mapped_ok}
use Rattle.recipes.proofs.Judging.{passed_none, passed_slip, passed_more, passed_all}
use Rattle.recipes.proofs.translator.judge_lines.Goals as goal

pub loop-k-init : goal.loop-k-init
loop-k-init c = passed_none _ _

pub returns-in_err-map_err : goal.returns-in_err-map_err
returns-in_err-map_err c =
    let slip = mapped_err _ _ _ _ c.map_err.ensures.cases c.in_err-map_err.was in
    let made = slip.1.1 in
    let is : c.in_err-map_err.field-0.0 ≡ at_line slip.0 (c.loop-k.k + 2) = search rules in
    handed_on _ _ c.from_residual.ensures.1 ∙ (ap Err is ∙ passed_slip _ _ _ _ c.loop-k.invariant _ c.loop-k-test.true (sym c.check_line.ensures ∙ slip.1.0))

pub loop-k-preserved : goal.loop-k-preserved
loop-k-preserved c =
    let small = c.requires.1.0 in
    passed_more _ _ _ _ c.loop-k.invariant _ _ c.loop-k-test.true (sym c.check_line.ensures ∙ mapped_ok _ _ _ _ c.map_err.ensures.cases c.in_ok-map_err.was)
    (rw c.of.ensures at c.steps-steps.ensures.0) (let most = rw c.of.ensures at c.steps-steps.ensures.1 in omega (arith, most, small))

pub returns : goal.returns
returns c = passed_all _ _ _ _ c.loop-k.invariant c.loop-k-test.false
