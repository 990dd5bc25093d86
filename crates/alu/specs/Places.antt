-- Terms of the contracts of helpers: in src/integer_arith.rt a result with its flags; in src/shift_rotate.rt n + 1 places, the n bits of an
-- operand and the bit held beside them. No contract of a public function names anything of this page, and a reader can leave it out.
-- Assumes nothing.
use Rattle.std.specs.Prelude.{ℕ, ◌+◌, ◌-◌, ◌*◌, ◌/◌, ◌%◌, ◌^◌, Bool}
use Rattle.alu.specs.declared.integer_arith.Sum.{Sum}
use Rattle.alu.specs.declared.shift_rotate.Held.{Held}
use Rattle.alu.specs.Bits.{low, bit, lowest, digit}
use Rattle.alu.specs.ConditionCodes.{arith_flags, add_flags, sub_flags}
use Rattle.alu.specs.Arith.{sum, difference}

-- a result with its V and C, and those of d + s + x and d - s - x, in n bits
abbrev pub summed : (n r : ℕ) → (v c : Bool) → Sum
summed n r v c = record { result = r; flags = arith_flags n r v c }

abbrev pub added : (n s d : ℕ) → (x : Bool) → Sum
added n s d x = let r = sum n s d x in record { result = r; flags = add_flags n s d r }

abbrev pub subtracted : (n s d : ℕ) → (x : Bool) → Sum
subtracted n s d x = let r = difference n s d x in record { result = r; flags = sub_flags n s d r }

-- the held bit above the operand, and below it
abbrev pub above : (n : ℕ) → Held → ℕ
above n h = h.value + digit h.out * 2 ^ n

abbrev pub below : Held → ℕ
below h = 2 * h.value + digit h.out

-- and back
abbrev pub from_above : (n s : ℕ) → Held
from_above n s = record { value = low n s; out = bit n s }

abbrev pub from_below : (s : ℕ) → Held
from_below s = record { value = s / 2; out = lowest s }

-- a ring of p places, turned to the left by j of them
abbrev pub turned_left : (p j s : ℕ) → ℕ
turned_left p j s = s * 2 ^ j % 2 ^ p + s / 2 ^ (p - j)
