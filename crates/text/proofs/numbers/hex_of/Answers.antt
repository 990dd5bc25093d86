-- `text::numbers::hex_of` meets its contract: the field is held to the writing of its digits' value. Assumes nothing.
use Rattle.std.proofs.Common.{◌≡◌, ℕ, ◌^◌, ◌<◌, ◌≤◌, ◌∙◌, Some, None, Result, Ok, Err, mod-eq_of_lt, arith}
use Rattle.std.specs.Result.{OkIff, result_ok}
use Rattle.text.proofs.Texts.{same_pointwise}
use Rattle.text.proofs.Values.{hex_over, hex_read_lem}
use Rattle.text.proofs.numbers.hex_of.Goals as goal

-- what `try_from` and `ok` let through is the number itself, and what they don't has no room
kept : {E : Type 0} (r : Result ℕ E) (w x : ℕ) → OkIff r (w < 2 ^ 32) w → Some x ≡ result_ok r → x ≡ w
kept (Ok y) w x t e = let is : x ≡ y = cc in is ∙ t.1
kept (Err _) w x t e = cc

lost : {E : Type 0} (r : Result ℕ E) (w : ℕ) → OkIff r (w < 2 ^ 32) w → None ≡ result_ok r → 2 ^ 32 ≤ w
lost (Ok y) w t e = cc
lost (Err _) w t e = omega arith

pub returns-in_err-value : goal.returns-in_err-value
returns-in_err-value c =
    c.from_residual.ensures ∙ hex_over c.args.field.now _ c.value_in.ensures (lost c.try_from.result c.value_in.result c.try_from.ensures c.in_err-value.ensures.value)

pub returns : goal.returns
returns c =
    let v = c.in_ok-value.value in
    let is : v ≡ c.value_in.result = kept c.try_from.result c.value_in.result v c.try_from.ensures c.in_ok-value.ensures.value in
    rw (c.then_some.ensures, c.eq.ensures, c.as_slice.ensures, c.hex.ensures, same_pointwise)
    (hex_read_lem c.args.field.now v (omega arith) (λ l. is ∙ (c.value_in.ensures ∙ mod-eq_of_lt (omega arith))))
