-- `bit_operation` meets its contract.
-- Assumes nothing.
use Prim.Native.Nat.{◌%◌}
use native.Mathlib.Omega.{arith}
use Rattle.alu.specs.Bitops.{bitop_of}
use Rattle.alu.proofs.bit_manip.bit_operation.Goals as goal

pub returns : goal.returns
unfolding bitop_of
returns c =
    let a = c.args in
    let k = a.number % 32 in
    let w-is = c.weight-w.ensures in
    rw (c.bit_answer-answer.ensures k w-is, c.bit_figure.ensures, c.bit_result-result.ensures k (omega arith) w-is) at c.only_long.ensures
