-- `recipes::translator::clocks` meets its contract: the sum of the figures. Assumes nothing.
use Rattle.std.proofs.Common.{◌∙◌, rules}
use Rattle.std.proofs.lemmas.Iterator.{YieldsList-from_slice, YieldsList-from_map}
use Rattle.std.proofs.lemmas.Iterator.Consumers.{YieldsList-at, sum_by_from_yields_List}
use Rattle.recipes.specs.Listing.{figure_of}
use Rattle.recipes.proofs.Printing.{figures_sum}
use Rattle.recipes.proofs.translator.clocks.Goals as goal

pub returns : goal.returns
returns c =
    sum_by_from_yields_List figure_of c.args.steps.now c.map.result c.sum.result c.sum.ensures.ran
    (YieldsList-from_map _ figure_of (YieldsList-at c.map.ensures.source (YieldsList-from_slice c.args.steps.now cc)) c.map.ensures.closure (λ x r q k. search rules))
    ∙ figures_sum c.args.steps.now
