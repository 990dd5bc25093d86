-- `Writer::decimal` meets its contract: `io` writes the digits, and `decimal_text` says which.
-- Assumes nothing.
use Rattle.std.proofs.Common.{◌∙◌}
use Rattle.text.proofs.Values.{decimal_text}
use Rattle.text.proofs.writers.Writer.decimal.Goals as goal

pub returns : goal.returns
returns c =
    rw (c.decimal-k.ensures.digits ∙ decimal_text c.args.n c.decimal-k.result c.ranges.n.fits c.decimal-k.ensures.len) at c.bytes.ensures
