-- `rows::steps_of` meets its contract: its loop ends where the words or the slots do. Assumes nothing.
use Prim.Native.Nat.{ℕ}
use mathlib.Core.Path.{◌≡◌, ap, ◌∙◌}
use mathlib.Core.List.{map}
use native.Mathlib.Omega.{arith}
use lib.ListN.{take}
use lib.Seq.{length-take-le}
use Rattle.std.proofs.lemmas.List.{take_min}
use Rattle.step.specs.Run.{array_slots}
use Rattle.recipe_calls.specs.Words.{step_of}
use Rattle.recipe_calls.proofs.rows.steps_of.Goals as goal

pub returns : goal.returns
returns c =
    let words = c.args.words.now in
    let e : c.loop-i.i ≡ c.min-count.result = omega (arith, length-take-le c.min-count.result words (omega arith)) in
    (rw e at c.loop-i.invariant.1)
    ∙ (ap (λ (n : ℕ). map step_of (take n words)) c.min-count.ensures ∙ ap (map step_of) (take_min array_slots words))
