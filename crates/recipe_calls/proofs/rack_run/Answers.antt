-- `rack_run` meets its contract: a turn of the loop runs one box (`After` of Racking). Assumes nothing.
use mathlib.Core.Path.{◌≡◌, ap, ◌∙◌}
use Prim.Native.Nat.{ℕ, ◌/◌, ◌<◌, min}
use mathlib.Core.List.{List}
use native.Mathlib.Omega.{arith}
use lib.ListN.{length, get_or}
use Rattle.step.specs.declared.forms.Step.{Step}
use Rattle.step.specs.Perform.{perform_of}
use Rattle.step.specs.Run.{run_of}
use Rattle.step.specs.Rack.{boxes_of, plan_of}
use Rattle.recipe_calls.specs.Words.{first_of}
use Rattle.recipe_calls.specs.Calls.{rack_left, rack_by}
use Rattle.recipe_calls.specs.Boxes.{box_state, eight_put}
use Rattle.recipe_calls.proofs.Racking.{boxes_are, within_planned, after_next, after_all}
use Rattle.recipe_calls.proofs.rack_run.Goals as goal

pub loop-i-preserved : goal.loop-i-preserved
loop-i-preserved c =
    let l = c.loop-i in
    let a = c.args in
    let p = c.plan-plan.result in
    let within = within_planned (length a.flags.now) (length a.starts.now) (c.min-words.result / 8) p c.plan-plan.ensures in
    let inside : l.i < boxes_of p = omega (arith, boxes_are p) in
    let ran = c.run_box-ran.ensures.0
    ∙ ap (λ (k : List Step). run_of perform_of k (box_state l.i l.d l.a l.flags) (get_or a.starts.now l.i 0) a.budget) c.steps_of-steps.ensures in
    let told = c.put_eight.ensures ∙ ap (λ (w : List ℕ). eight_put l.i w l.answers) c.ran_told.ensures in
    after_next (first_of a.listing.now) (boxes_of p) a.d.now a.a.now a.flags.now a.starts.now a.budget a.answers.now within.sets within.starts
    l.d l.a l.flags l.answers l.i inside l.invariant c.run_box-ran.result ran _ _ _ _ c.run_box-ran.ensures.1 told

pub returns : goal.returns
returns c =
    let l = c.loop-i in
    let a = c.args in
    let p = c.plan-plan.result in
    let within = within_planned (length a.flags.now) (length a.starts.now) (c.min-words.result / 8) p c.plan-plan.ensures in
    let all : l.i ≡ boxes_of p = omega (arith, boxes_are p) in
    let is = c.min-words.ensures ∙ ap (λ (m : ℕ). min m (length a.answers.now)) c.min.ensures in
    ap (rack_left l.d l.a l.flags l.answers) c.rack_told.ensures
    ∙ (after_all a.listing.now a.d.now a.a.now a.flags.now a.starts.now a.budget a.answers.now l.d l.a l.flags l.answers l.i p within.sets within.starts all l.invariant
    ∙ ap (rack_by a.listing.now a.d.now a.a.now a.flags.now a.starts.now a.budget a.answers.now)
    (c.plan-plan.ensures ∙ ap (λ (m : ℕ). plan_of (length a.flags.now) (length a.starts.now) (m / 8)) is))
