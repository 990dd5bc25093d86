-- Document 01, "What each statement must exclude": two answers that satisfy the contract of a public function are equal.
-- The functions here are lent nothing and have no state, so the result is the whole answer. A function that is lent something wants a statement over
-- two exits, which shows them equal too.
--     Determines       what is shown of a contract
--     one_equation     a contract that is one equation has it
--     determined       so every public function of this crate, by the contract that stands in its code. tools/contracts looks that none is left out
-- Assumes nothing.
use mathlib.Core.Path.{◌≡◌, sym, ◌∙◌}
use mathlib.Core.List.{List, [], ◌∷◌}
use contract.Lifetimes.{Lfts}
use Rattle.alu.proofs.types.U32FromVerdict.from.Reads as u32-from-verdict
use Rattle.alu.proofs.types.U32FromCheck.from.Reads as u32-from-check
use Rattle.alu.proofs.types.Size.width.Reads as width
use Rattle.alu.proofs.types.Size.masked.Reads as masked
use Rattle.alu.proofs.types.Size.top.Reads as top
use Rattle.alu.proofs.types.result_flags.Reads as result-flags
use Rattle.alu.proofs.types.FlagsFromU8.from.Reads as flags-from-u8
use Rattle.alu.proofs.types.U8FromFlags.from.Reads as u8-from-flags
use Rattle.alu.proofs.types.Answer.accepted.Reads as accepted
use Rattle.alu.proofs.types.Answer.refused.Reads as refused
use Rattle.alu.proofs.types.Size.figure.Reads as figure
use Rattle.alu.proofs.integer_arith.exec_add.Reads as exec-add
use Rattle.alu.proofs.integer_arith.exec_adda.Reads as exec-adda
use Rattle.alu.proofs.integer_arith.exec_addq.Reads as exec-addq
use Rattle.alu.proofs.integer_arith.exec_addq_address.Reads as exec-addq-address
use Rattle.alu.proofs.integer_arith.exec_addx.Reads as exec-addx
use Rattle.alu.proofs.integer_arith.exec_sub.Reads as exec-sub
use Rattle.alu.proofs.integer_arith.exec_suba.Reads as exec-suba
use Rattle.alu.proofs.integer_arith.exec_subq.Reads as exec-subq
use Rattle.alu.proofs.integer_arith.exec_subq_address.Reads as exec-subq-address
use Rattle.alu.proofs.integer_arith.exec_subx.Reads as exec-subx
use Rattle.alu.proofs.integer_arith.exec_cmp.Reads as exec_Cmp
use Rattle.alu.proofs.integer_arith.exec_cmpa.Reads as exec-cmpa
use Rattle.alu.proofs.integer_arith.exec_clr.Reads as exec-clr
use Rattle.alu.proofs.integer_arith.exec_neg.Reads as exec_neg
use Rattle.alu.proofs.integer_arith.exec_negx.Reads as exec-negx
use Rattle.alu.proofs.integer_arith.exec_not.Reads as exec_not
use Rattle.alu.proofs.integer_arith.exec_ext.Reads as exec-ext
use Rattle.alu.proofs.integer_arith.set_logic_flags.Reads as set-logic-flags
use Rattle.alu.proofs.integer_arith.exec_chk.Reads as exec-chk
use Rattle.alu.proofs.shift_rotate.exec_asl.Reads as exec-asl
use Rattle.alu.proofs.shift_rotate.exec_asr.Reads as exec-asr
use Rattle.alu.proofs.shift_rotate.exec_lsl.Reads as exec-lsl
use Rattle.alu.proofs.shift_rotate.exec_lsr.Reads as exec-lsr
use Rattle.alu.proofs.shift_rotate.exec_rol.Reads as exec-rol
use Rattle.alu.proofs.shift_rotate.exec_ror.Reads as exec-ror
use Rattle.alu.proofs.shift_rotate.exec_roxl.Reads as exec-roxl
use Rattle.alu.proofs.shift_rotate.exec_roxr.Reads as exec-roxr
use Rattle.alu.proofs.bit_manip.bit_operation.Reads as bit-operation
use Rattle.alu.proofs.bit_manip.exec_btst.Reads as exec-btst
use Rattle.alu.proofs.bit_manip.exec_bset.Reads as exec-bset
use Rattle.alu.proofs.bit_manip.exec_bclr.Reads as exec-bclr
use Rattle.alu.proofs.bit_manip.exec_bchg.Reads as exec-bchg
use Rattle.alu.proofs.conditions.U8FromCondition.from.Reads as u8-from-condition
use Rattle.alu.proofs.conditions.ConditionTryFromU8.try_from.Reads as condition-try-from-u8
use Rattle.alu.proofs.conditions.holds.Reads as condition-holds

-- `met` is what a contract tells of the arguments, the result and the parameters at exit
pub record Determines {Args Result Exit : Lfts 0 → Type 0} (met : (κs : Lfts 0) → Args κs → Result κs → Exit κs → Type 0) : Type 0 where
  pub equal : (κs : Lfts 0) (a : Args κs) (e : Exit κs) (one other : Result κs) → met κs a one e → met κs a other e → one ≡ other

pub one_equation :
    {Args Result Exit : Lfts 0 → Type 0} (of : (κs : Lfts 0) → Args κs → Result κs) → Determines {Exit = Exit} (λ κs a r e. r ≡ of κs a)
one_equation of = record { equal = λ κs a e one other p q. p ∙ sym q }

-- a contract, and the proof that it determines the result
pub data Fixed : Type 1 where
  fixed : {Args Result Exit : Lfts 0 → Type 0} (met : (κs : Lfts 0) → Args κs → Result κs → Exit κs → Type 0) → Determines met → Fixed

pub determined : List Fixed
determined =
    fixed u32-from-verdict.Learnt (one_equation _) ∷
    fixed u32-from-check.Learnt (one_equation _) ∷
    fixed width.Learnt (one_equation _) ∷
    fixed masked.Learnt (one_equation _) ∷
    fixed top.Learnt (one_equation _) ∷
    fixed result-flags.Learnt (one_equation _) ∷
    fixed flags-from-u8.Learnt (one_equation _) ∷
    fixed u8-from-flags.Learnt (one_equation _) ∷
    fixed accepted.Learnt (one_equation _) ∷
    fixed refused.Learnt (one_equation _) ∷
    fixed figure.Learnt (one_equation _) ∷
    fixed exec-add.Learnt (one_equation _) ∷
    fixed exec-adda.Learnt (one_equation _) ∷
    fixed exec-addq.Learnt (one_equation _) ∷
    fixed exec-addq-address.Learnt (one_equation _) ∷
    fixed exec-addx.Learnt (one_equation _) ∷
    fixed exec-sub.Learnt (one_equation _) ∷
    fixed exec-suba.Learnt (one_equation _) ∷
    fixed exec-subq.Learnt (one_equation _) ∷
    fixed exec-subq-address.Learnt (one_equation _) ∷
    fixed exec-subx.Learnt (one_equation _) ∷
    fixed exec_Cmp.Learnt (one_equation _) ∷
    fixed exec-cmpa.Learnt (one_equation _) ∷
    fixed exec-clr.Learnt (one_equation _) ∷
    fixed exec_neg.Learnt (one_equation _) ∷
    fixed exec-negx.Learnt (one_equation _) ∷
    fixed exec_not.Learnt (one_equation _) ∷
    fixed exec-ext.Learnt (one_equation _) ∷
    fixed set-logic-flags.Learnt (one_equation _) ∷
    fixed exec-chk.Learnt (one_equation _) ∷
    fixed exec-asl.Learnt (one_equation _) ∷
    fixed exec-asr.Learnt (one_equation _) ∷
    fixed exec-lsl.Learnt (one_equation _) ∷
    fixed exec-lsr.Learnt (one_equation _) ∷
    fixed exec-rol.Learnt (one_equation _) ∷
    fixed exec-ror.Learnt (one_equation _) ∷
    fixed exec-roxl.Learnt (one_equation _) ∷
    fixed exec-roxr.Learnt (one_equation _) ∷
    fixed bit-operation.Learnt (one_equation _) ∷
    fixed exec-btst.Learnt (one_equation _) ∷
    fixed exec-bset.Learnt (one_equation _) ∷
    fixed exec-bclr.Learnt (one_equation _) ∷
    fixed exec-bchg.Learnt (one_equation _) ∷
    fixed u8-from-condition.Learnt (one_equation _) ∷
    fixed condition-try-from-u8.Learnt (one_equation _) ∷
    fixed condition-holds.Learnt (one_equation _) ∷ []
