-- `text::numbers::decimal_of` meets its contract: the field is held to the writing of its digits' value. Assumes nothing.
use Rattle.std.proofs.Common.{arith, ◌^◌, ◌<◌, ◌∙◌, mod-eq_of_lt}
use Rattle.text.proofs.Texts.{same_pointwise}
use Rattle.text.proofs.Values.{decimal_text, decimal_read_lem}
use Rattle.text.proofs.numbers.decimal_of.Goals as goal

pub returns : goal.returns
returns c =
    let v = c.value_in-value.result in
    let small : v < 2 ^ 64 = omega arith in
    let text = c.decimal-k.ensures.digits ∙ decimal_text v c.decimal-k.result small c.decimal-k.ensures.len in
    rw (c.then_some.ensures, c.eq.ensures, text, same_pointwise) (decimal_read_lem c.args.field.now v small (λ l. c.value_in-value.ensures ∙ mod-eq_of_lt l))
