-- `width_flags` meets its contract: `&` with the highest bit tells it.
-- Assumes nothing.
use native.Mathlib.Nat.{mod-eq_of_lt}
use Rattle.alu.proofs.Bitwise.{top_weight}
use Rattle.alu.proofs.types.width_flags.Goals as goal

pub returns : goal.returns
returns c n w-is low = let a = c.args in rw (w-is, top_weight n a.res, mod-eq_of_lt low)
