-- `asr` meets its contract: by the sign, with and without ones that come in.
-- Assumes nothing.
-- the law at a size: what comes in is `fill`, and all stays within 33 places
use native.Mathlib.Omega.{arith}
use mathlib.Core.Path.{◌≡◌, ◌∙◌}
use mathlib.Core.Bool.{Bool}
use mathlib.Core.Logic.{◌⊎◌, inl, inr}
use Prim.Native.Nat.{ℕ, ◌+◌, ◌-◌, ◌*◌, ◌/◌, ◌^◌, ◌≤◌, ◌<◌}
use lib.Pow.{pow_mono}
use Rattle.alu.specs.declared.types.Size.{Size}
use Rattle.alu.specs.declared.shift_rotate.ShiftOp.TheVariants.{Asr}
use Rattle.alu.specs.Bits.{bits_of}
use Rattle.alu.specs.Shifts.{start, moved}
use Rattle.alu.specs.Places.{below, from_below}
use Rattle.alu.proofs.Bounds.{bits_pos, bits_le, low_lt}
use Rattle.alu.proofs.Turns.{asr_turns}
use Rattle.alu.proofs.shift_rotate.asr.Goals as goal
use Rattle.alu.proofs.shift_rotate.asr.Goals.{then-places-least, else-places-least}

law :
    (size : Size) (k value : ℕ) (x : Bool) {s m fill : ℕ} → s ≡ below (start (bits_of size) value x) → m ≡ 2 ^ bits_of size →
    ((s < m) × (fill ≡ 0)) ⊎ ((m ≤ s) × (fill ≡ 2 * m - 1 - (2 * m - 1) / 2 ^ k)) →
    (from_below (s / 2 ^ k + fill) ≡ moved Asr (bits_of size) k value x) × (s / 2 ^ k + fill < 2 ^ 33)
law size k value x {s} {m} {fill} s-is m-is by_sign_lem =
    let n = bits_of size in
    let at_n = asr_turns n k (start n value x) (bits_pos size) (low_lt n value) s m fill s-is m-is by_sign_lem in
    (at_n.0, omega (arith, at_n.1, pow_mono {i = n + 1} {j = 33} (omega (arith, bits_le size))))

pub from_below-requires : goal.from_below-requires
from_below-requires c =
    let a = c.args in
    (law a.size a.k.count a.value a.x c.below_of-places.ensures.0 c.modulus-least.ensures.0
    (elim c.if-places-least.branch [ then-places-least w ↦ inl (w.if-places-least.true, w.fill-is) | else-places-least w ↦ inr (w.if-places-least.false, w.fill-is) ])).1

pub returns : goal.returns
returns c =
    let a = c.args in
    c.from_below.ensures ∙
    (law a.size a.k.count a.value a.x c.below_of-places.ensures.0 c.modulus-least.ensures.0
    (elim c.if-places-least.branch [ then-places-least w ↦ inl (w.if-places-least.true, w.fill-is) | else-places-least w ↦ inr (w.if-places-least.false, w.fill-is) ])).0
