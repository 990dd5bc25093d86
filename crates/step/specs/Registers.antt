-- The register set: eight data registers and eight address registers of 32 bits, which a state holds as lists of numbers, and the flags. What a
-- register holds, and a write to it. Past the end of a list `get_or` is 0 and `set` changes nothing: a step that names such a register is refused
-- before it reads one (Perform). Assumes nothing.
use Rattle.std.specs.Prelude.{ℕ, ◌/◌, ◌^◌, slice_index, slice_set}
use Rattle.alu.specs.declared.types.Size.{Size}
use Rattle.alu.specs.declared.types.Size.TheVariants.{Byte, Word, Long}
use Rattle.alu.specs.declared.types.Flags.{Flags}
use Rattle.alu.specs.Bits.{low, join}
use Rattle.step.specs.declared.registers.State.{State}
use Rattle.step.specs.declared.registers.D.{D}
use Rattle.step.specs.declared.registers.A.{A}

-- what a register holds
abbrev pub data_of : State → D → ℕ
data_of s r = slice_index s.d r.0

abbrev pub address_of : State → A → ℕ
address_of s r = slice_index s.a r.0

-- a write at a size: byte and word keep the register's upper bits, long writes all of it (`merged_bits` of proofs/Sound: one rule over the bits)
abbrev pub merged_of : Size → (old value : ℕ) → ℕ
merged_of Byte old value = join 8 (low 8 value) (old / 2 ^ 8)
merged_of Word old value = join 16 (low 16 value) (old / 2 ^ 16)
merged_of Long old value = value

-- the state with a data register written at a size, with an address register written whole, with other flags
abbrev pub put_data : State → Size → D → (value : ℕ) → State
put_data s size r value = record { d = slice_set s.d r.0 (merged_of size (data_of s r) value); a = s.a; flags = s.flags }

abbrev pub put_address : State → A → (value : ℕ) → State
put_address s r value = record { d = s.d; a = slice_set s.a r.0 value; flags = s.flags }

abbrev pub put_flags : State → Flags → State
put_flags s f = record { d = s.d; a = s.a; flags = f }
