-- `runs::run_array` meets its contract: the first steps of an array, of which a count above its length means all. Assumes nothing.
use Rattle.std.proofs.Common.{◌≡◌, ℕ, List, take, ap, ◌∙◌, arith}
use Rattle.step.specs.declared.forms.Step.{Step}
use Rattle.step.specs.Perform.{perform_of}
use Rattle.step.specs.Run.{array_slots, run_of}
use Rattle.step.proofs.Running.{first_steps}
use Rattle.step.proofs.runs.run_array.Goals as goal

pub returns : goal.returns
returns c =
    let a = c.args in
    let len = c.min-len in
    let same : take len.result a.listing ≡ take a.count a.listing =
    ap (λ (k : ℕ). take k a.listing) len.ensures ∙ first_steps a.count array_slots a.listing (omega arith) in
    c.run.ensures ∙ ap (λ (l : List Step). run_of perform_of l a.state a.start a.budget) same
