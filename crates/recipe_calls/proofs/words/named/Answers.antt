-- `words::named` meets its contract: the bytes of the word name an operation, a form and a size. Assumes nothing.
use Rattle.std.proofs.Common.{◌≡◌, ◌∙◌, sym, get_or, rules}
use Rattle.recipe_calls.specs.Words.{byte_of}
use Rattle.recipe_calls.proofs.Naming.{low, named_by}
use Rattle.recipe_calls.proofs.words.named.Goals as goal

pub returns : goal.returns
returns c =
    let w = c.args.word in
    let bytes = c.to_le_bytes.result in
    let b0 : get_or bytes 0 0 ≡ byte_of 0 w = (search rules ∙ sym (low w)) in
    let b1 : get_or bytes 1 0 ≡ byte_of 1 w = search rules in
    let b2 : get_or bytes 2 0 ≡ byte_of 2 w = search rules in
    let b3 : get_or bytes 3 0 ≡ byte_of 3 w = search rules in
    let b4 : get_or bytes 4 0 ≡ byte_of 4 w = search rules in
    named_by w _ _ _
    (sym (rw b0 at c.operation_at.ensures) ∙ c.in_ok-operation.was)
    (sym (rw (b2, b3, b4) at c.form_of.ensures) ∙ c.in_ok-form.was)
    (sym (rw b1 at c.size_of.ensures) ∙ c.in_ok-size.was)
