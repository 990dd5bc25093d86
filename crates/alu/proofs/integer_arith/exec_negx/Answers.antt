-- `exec_negx` meets its contract: the flags of 0 - d - x are NEGX's.
-- Assumes nothing.
use mathlib.Core.Path.{◌∙◌, ap}
use Rattle.alu.specs.declared.types.Flags.{Flags}
use Rattle.alu.specs.Bits.{bits_of}
use Rattle.alu.specs.ConditionCodes.{keep_z}
use Rattle.alu.specs.Answers.{accepted, figure}
use Rattle.alu.specs.Arith.{difference}
use Rattle.alu.proofs.Laws.{neg_flags_lem}
use Rattle.alu.proofs.integer_arith.exec_negx.Goals as goal

pub returns : goal.returns
returns c =
    let a = c.args in
    let n = bits_of a.size in
    let r = difference n a.dst 0 a.flags.x in
    (rw (c.figure.ensures, c.keep_z.ensures, c.subtract.ensures) at c.answer.ensures) ∙
    ap (λ (f : Flags). accepted r (keep_z a.flags f) (figure a.size 4 6)) (neg_flags_lem n a.dst r)
