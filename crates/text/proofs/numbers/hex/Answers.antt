-- `text::numbers::hex` meets its contract: each digit is what a shift over those behind it leaves. Assumes nothing.
use Rattle.std.proofs.Common.{rules, arith, zero-le}
use Rattle.text.proofs.Values.{hex_at, each_from, hex_by}
use Rattle.text.proofs.numbers.hex.Goals as goal

pub returns : goal.returns
returns c =
    let made = c.from_fn.ensures.items in
    hex_by c.args.value _ made.long
    (λ k h. each_from _ _ (hex_at c.args.value) (λ i r q call. search rules) _ 0 8 made.each k zero-le (omega arith))
