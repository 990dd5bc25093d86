-- `recipe::answer` meets its contract: what is written is the whole answer, since the slice has room for any. Assumes nothing.
use Rattle.std.proofs.Common.{rules, ◌≤◌, length}
use Rattle.recipes.specs.Printer.{answer_of}
use Rattle.text.proofs.Writing.{wrote_counts, wrote_whole}
use Rattle.recipes.proofs.Room.{answer_short}
use Rattle.recipe.proofs.answer.Goals as goal

pub returns-clause-prefix_len : goal.returns-clause-prefix_len
returns-clause-prefix_len c = wrote_counts _ 0 _ c.answer.ensures (search rules)

pub returns-clause-out_after : goal.returns-clause-out_after
returns-clause-out_after c =
    let short = answer_short c.args.text.now in
    let room : length (answer_of c.args.text.now) ≤ length c.args.out.now = search rules in
    wrote_whole _ _ c.answer.ensures room
