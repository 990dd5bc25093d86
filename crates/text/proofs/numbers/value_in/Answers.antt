-- `text::numbers::value_in` meets its contract: the digits' value is a fold over them. Assumes nothing.
use Rattle.std.proofs.Common.{◌+◌, ◌*◌, ◌%◌, ◌^◌, ◌∙◌, rules}
use Rattle.std.proofs.lemmas.Iterator.{YieldsList-from_slice}
use Rattle.std.proofs.lemmas.Iterator.Consumers.{fold_from_yields_List}
use Rattle.text.specs.Text.{worth_of}
use Rattle.text.proofs.Values.{value_fold}
use Rattle.text.proofs.numbers.value_in.Goals as goal

pub returns : goal.returns
returns c =
    let base = c.args.base in
    fold_from_yields_List _ (λ a x. (a * base % 2 ^ 64 + worth_of x) % 2 ^ 64) 0 c.fold.result c.fold.ensures.ran (YieldsList-from_slice c.args.field.now cc)
    (λ a x b q k. search rules)
    ∙ value_fold base (2 ^ 64) 0 c.args.field.now
