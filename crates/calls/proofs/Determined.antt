-- Two answers that satisfy the contract of a public function of this crate are equal.
-- Assumes nothing.
use mathlib.Core.List.{List, [], ◌∷◌}
use Rattle.alu.proofs.Determined.{Fixed, fixed, one_equation}
use Rattle.calls.proofs.alu_call.Reads as alu-call
use Rattle.calls.proofs.size_of.Reads as size-of

pub determined : List Fixed
determined = fixed alu-call.Learnt (one_equation _) ∷ fixed size-of.Learnt (one_equation _) ∷ []
