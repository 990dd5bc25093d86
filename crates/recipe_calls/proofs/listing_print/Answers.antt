-- `listing_print` meets its contract: words name no more steps than are printed. Assumes nothing.
use mathlib.Core.Path.{ap, ◌∙◌}
use mathlib.Core.List.{List}
use lib.ListN.{take}
use Rattle.step.specs.declared.forms.Step.{Step}
use Rattle.step.specs.Run.{array_slots}
use Rattle.text.specs.Wrote.{writing}
use Rattle.recipes.specs.Printer.{listing_text}
use Rattle.recipe_calls.proofs.Naming.{first_few}
use Rattle.recipe_calls.proofs.listing_print.Goals as goal

pub returns : goal.returns
returns c =
    c.print.ensures
    ∙ ap (λ (steps : List Step). writing c.args.out.now 0 (listing_text c.args.width steps))
    (ap (take array_slots) c.steps_of.ensures ∙ first_few c.args.listing.now)
