-- `forms::operation_at` meets its contract: in each arm the number is known, and in the last it is none of the table's. Assumes nothing.
use Rattle.std.proofs.Common.{map, rules}
use Rattle.step.specs.Operations.{Row, operations}
use Rattle.step.proofs.Operations.{missed}
use Rattle.step.proofs.forms.operation_at.Goals as goal

pub returns-in_default : goal.returns-in_default
returns-in_default c = missed (map (λ (r : Row). r.operation) operations) c.args.number (search rules)
