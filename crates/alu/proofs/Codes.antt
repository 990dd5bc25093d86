-- The flags as a packed byte: it has five bits, and they read back. Assumes nothing.
use mathlib.Core.Path.{◌≡◌}
use mathlib.Core.Bool.{Bool, true, false}
use Prim.Native.Nat.{ℕ, ◌/◌, ◌%◌, ◌≤◌}
use native.Mathlib.Omega.{arith}
use lib.Dec.{eqb}
use Rattle.alu.specs.declared.types.Flags.{Flags}
use Rattle.alu.specs.Bits.{digit}
use Rattle.alu.specs.ConditionCodes.{flags_of, ccr_of}
use Rattle.alu.proofs.Bounds.{digit_le}

pub ccr_le : (f : Flags) → ccr_of f ≤ 31
ccr_le f = omega (arith, digit_le f.x, digit_le f.n, digit_le f.z, digit_le f.v, digit_le f.c)

digit_back : (b : Bool) {n : ℕ} → n ≡ digit b → eqb n 1 ≡ b
digit_back true e = rw e
digit_back false e = rw e

pub flags_back : (f : Flags) → flags_of (ccr_of f) ≡ f
flags_back f =
    let x = digit_le f.x in
    let n = digit_le f.n in
    let z = digit_le f.z in
    let v = digit_le f.v in
    let c = digit_le f.c in
    rw (
      digit_back f.x {n = ccr_of f / 16 % 2} (omega arith),
      digit_back f.n {n = ccr_of f / 8 % 2} (omega arith),
      digit_back f.z {n = ccr_of f / 4 % 2} (omega arith),
      digit_back f.v {n = ccr_of f / 2 % 2} (omega arith),
      digit_back f.c {n = ccr_of f / 1 % 2} (omega arith),
    )
