-- `answer` meets its contract: in each arm the number is known, and `answer_of` computes.
-- Assumes nothing.
use mathlib.Core.Path.{refl, sym, ap, ◌∙◌}
use Rattle.calls.specs.Packed.{operations, plain}
use Rattle.calls.proofs.Called.{answered, missed}
use Rattle.calls.proofs.answer.Goals as goal

-- the last arm: the number is none of them
pub returns-in_default : goal.returns-in_default
unfolding operations
returns-in_default c =
    let a = c.args in
    let f = c.from-in_default.result in
    let none = (missed {T = Unit {0}} operations a.op a.size a.src a.dst f assumption).1 in
    answered a.op a.op a.size a.src a.dst refl c.from-in_default.ensures (ap plain c.refused.ensures ∙ sym none) c.pack-in_default.ensures.0
