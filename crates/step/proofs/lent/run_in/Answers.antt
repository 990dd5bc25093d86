-- `lent::run_in` meets its contract: the run's start comes to its answer, and a step keeps the answer that it comes to.
-- Assumes nothing.
use Rattle.std.proofs.Common.{◌<◌, ◌≤◌, length, get_or, subst, ◌∙◌, arith}
use Rattle.std.proofs.lemmas.List.{get_or_default}
use Rattle.step.specs.declared.forms.Step.{Step}
use Rattle.step.specs.Perform.{perform_of}
use Rattle.step.specs.Lent.{held}
use Rattle.step.specs.Course.{Advanced, nowhere}
use Rattle.step.proofs.Figures.{perform_fits}
use Rattle.step.proofs.Running.{sober, begin_answer, begin_runs, turn_answer, turn_runs, stop_few}
use Rattle.step.proofs.lent.run_in.Goals as goal

pub loop-on-init : goal.loop-on-init
loop-on-init c =
    let a = c.args in
    rw (c.begin-on.ensures, c.stop_at-stop.ensures)
    (begin_answer perform_of a.listing.now (held a.d.now a.a.now a.flags) a.start a.budget, begin_runs (length a.listing.now) a.start a.budget a.flags c.ranges.budget.fits)

pub loop-on-preserved : goal.loop-on-preserved
loop-on-preserved c =
    let a = c.args in
    let w = c.loop-on.invariant in
    let on = c.loop-on.on in
    let g = c.loop-on-test.true in
    let s = held c.loop-on.d c.loop-on.a on.flags in
    let stop = c.stop_at-stop.result in
    let few = stop_few (length a.listing.now) a.start a.budget in
    let near = c.ranges.budget.fits in
    let stop-is = c.stop_at-stop.ensures in
    let inside : on.next < stop = (w.1.ready g).inside in
    let from : a.start ≤ on.next = w.1.from in
    let short : stop ≤ length a.listing.now = omega (arith, stop-is, few.1.1 (omega (arith, stop-is, inside, from))) in
    let adv = subst (λ (k : Step). Advanced stop on (perform_of s k) c.advance-on.new.d c.advance-on.new.a c.advance-on.result) (get_or_default a.listing.now on.next _ nowhere (omega (arith, inside, short))) c.advance-on.ensures in (
      turn_answer perform_of sober a.listing.now a.start stop c.loop-on.d c.loop-on.a c.advance-on.new.d c.advance-on.new.a on c.advance-on.result g w.1 short adv ∙ w.0,
      turn_runs (length a.listing.now) a.start stop on (omega (arith, stop-is, few.1.0, near)) g w.1 _ c.advance-on.new.d c.advance-on.new.a c.advance-on.result (perform_fits s (get_or a.listing.now on.next nowhere)) adv,
    )
