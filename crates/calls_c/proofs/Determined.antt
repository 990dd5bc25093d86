-- Two answers that satisfy the contract of this crate's function are equal: the contract is that of the function of calls. tools/contracts looks that
-- none is left out.
-- Assumes nothing.
use mathlib.Core.List.{List, [], ◌∷◌}
use Rattle.alu.proofs.Determined.{Fixed, fixed, one_equation}
use Rattle.calls_c.proofs.alu_call.Reads as alu-call

pub determined : List Fixed
determined = fixed alu-call.Learnt (one_equation _) ∷ []
