-- `Writer::byte` meets its contract: a store past the end would change nothing, so where there is no room nothing is stored.
-- Assumes nothing.
use Rattle.std.proofs.Common.{sym, refl, rules}
use lib.Seq.{set_out}
use Rattle.text.proofs.Writing.{holds, wrote_by}
use Rattle.text.proofs.writers.Writer.byte.Goals as goal

pub returns-then-self : goal.returns-then-self
returns-then-self c = holds _ _ (wrote_by _ _ _ refl (search rules))

pub returns-else-self : goal.returns-else-self
returns-else-self c = holds _ _ (wrote_by _ _ _ (sym (set_out _ _ _ c.if-self.false)) (search rules))
