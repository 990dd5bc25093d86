-- `racks::rack` meets its contract: each turn writes one slot more of both rows, and a slot that is not yet written is as it was.
-- Assumes nothing.
use Rattle.std.proofs.Common.{◌≡◌, Ok, ◌<◌, ◌≤◌, List, length, get_or, take, set, sym, ap, ◌∙◌, ap₂, arith}
use Rattle.step.specs.declared.registers.State.{State}
use Rattle.step.specs.declared.racks.Boxed.{Boxed}
use Rattle.step.specs.Perform.{perform_of}
use Rattle.step.specs.Run.{run_of}
use Rattle.step.specs.Rack.{plan_of, state_of, boxed_of, left, runs_of, planned}
use Rattle.step.proofs.Boxes.{within_plan, planned_none, first_many, first_at_lem, row_still, row_next, row_last}
use Rattle.step.proofs.racks.rack.Goals as goal

pub loop-i-preserved : goal.loop-i-preserved
loop-i-preserved c =
    let a = c.args in
    let l = a.listing.now in
    let sets = a.sets.now in
    let starts = a.starts.now in
    let answers = a.answers.now in
    let n = c.in_ok-boxes.boxes in
    let i = c.loop-i.i in
    let ran = c.run-ran.result in
    let within = within_plan n (length sets) (length starts) (length answers) (sym c.plan.ensures ∙ c.in_ok-boxes.was) in
    let runs = runs_of perform_of l (take n sets) starts a.budget in
    let all : length runs ≡ n = first_many perform_of l a.budget n sets starts within.sets within.starts in
    let fits_sets : length runs ≤ length sets = omega (arith, all, within.sets) in
    let fits_answers : length runs ≤ length answers = omega (arith, all, within.answers) in
    let here : i < n = c.loop-i-test.true in
    let inside : i < length runs = omega (arith, all, here) in
    let still = ap (λ (row : List State). get_or row i _) c.loop-i.invariant.0 ∙ row_still state_of runs sets fits_sets i _ inside in
    let is : ran ≡ get_or runs i ran =
    c.run-ran.ensures
    ∙ (ap (λ (s : State). run_of perform_of l s (get_or starts i 0) a.budget) still
    ∙ sym (first_at_lem perform_of l a.budget n sets starts within.sets within.starts i ran _ 0 here)) in (
      ap (λ (row : List State). set row i ran.state) c.loop-i.invariant.0 ∙ row_next state_of runs sets fits_sets i ran ran is inside,
      ap₂ (λ (row : List Boxed) (z : Boxed). set row i z) c.loop-i.invariant.1 c.from.ensures ∙ row_next boxed_of runs answers fits_answers i ran ran is inside,
    )

pub returns : goal.returns
returns c =
    let a = c.args in
    let l = a.listing.now in
    let sets = a.sets.now in
    let starts = a.starts.now in
    let answers = a.answers.now in
    let n = c.in_ok-boxes.boxes in
    let i = c.loop-i.i in
    let plan : plan_of (length sets) (length starts) (length answers) ≡ Ok n = sym c.plan.ensures ∙ c.in_ok-boxes.was in
    let within = within_plan n (length sets) (length starts) (length answers) plan in
    let runs = runs_of perform_of l (take n sets) starts a.budget in
    let all : length runs ≡ n = first_many perform_of l a.budget n sets starts within.sets within.starts in
    let last : i ≡ length runs = omega (arith, all, c.loop-i.auto.i-end, c.loop-i-test.false) in
    ap₂ (left (Ok n))
    (c.loop-i.invariant.0 ∙ row_last state_of runs sets (omega (arith, all, within.sets)) i last)
    (c.loop-i.invariant.1 ∙ row_last boxed_of runs answers (omega (arith, all, within.answers)) i last)
    ∙ ap (planned perform_of l sets starts a.budget answers) (sym plan)

pub returns-in_err-boxes : goal.returns-in_err-boxes
returns-in_err-boxes c =
    let a = c.args in
    let plan = sym c.plan.ensures ∙ c.in_err-boxes.was in
    planned_none perform_of a.listing.now a.sets.now a.starts.now a.budget a.answers.now c.from_residual.ensures.0 plan
