use mathlib.Core.Path.{◌≡◌}
use mathlib.Core.Bool.{◌||◌}
use Prim.Native.Nat.{◌-◌}
use Rattle.alu.specs.Bits.{bits_of, low, top}
use Rattle.alu.specs.Shifts.{changed}
use Rattle.alu.proofs.shift_rotate.asl_overflow.Given as goal

abbrev pub invariant-loop : goal.invariant-loop
invariant-loop l = let n = bits_of l.size in changed n l.k (low n l.value) ≡ top n l.changes || changed n (l.end - l.counter) (low n l.operand)
