-- `recipes::runner::print_recipe` meets its contract: a listing or a refusal. Assumes nothing.
use Rattle.std.proofs.Common.{◌≡◌, length, take, take_all, arith}
use Rattle.std.proofs.lemmas.List.{length-take}
use Rattle.step.specs.Run.{array_slots}
use Rattle.recipes.specs.Printer.{printed_of}
use Rattle.recipes.proofs.Steps.{mapped}
use Rattle.recipes.proofs.runner.print_recipe.Goals as goal

pub returns-in-Ok : goal.returns-in-Ok
unfolding printed_of
returns-in-Ok c =
    let long : length c.in-Ok.made.steps ≡ array_slots = search mapped in
    let whole : take array_slots (take c.in-Ok.made.count c.in-Ok.made.steps) ≡ take c.in-Ok.made.count c.in-Ok.made.steps =
    take_all array_slots (take c.in-Ok.made.count c.in-Ok.made.steps) (omega (arith, length-take c.in-Ok.made.count c.in-Ok.made.steps)) in
    rw (← c.translate_array.ensures, c.in-Ok.is) (rw (c.steps.ensures, whole) at c.print.ensures)

pub returns-in-Err : goal.returns-in-Err
unfolding printed_of
returns-in-Err c = rw (← c.translate_array.ensures, c.in-Err.is) c.print_refusal.ensures
