-- Numbers over n bits: the parts of a number that the Manual speaks of, and its signed reading.
-- Assumes nothing.
use Rattle.std.specs.Prelude.{ℕ, ◌+◌, ◌-◌, ◌*◌, ◌/◌, ◌%◌, ◌^◌, Bool, ◌&&◌, eqb, ℤ, pos, neg_ℤ, ◌-ℤ◌}
use Rattle.std.specs.Int.{from_bool}
use Rattle.std.specs.Int.Signed.{le_z, lt_z}
use Rattle.alu.specs.declared.types.Size.{Size}
use Rattle.alu.specs.declared.types.Size.TheVariants.{Byte, Word, Long}
use Rattle.alu.specs.declared.types.Width.{Width}

-- how many bits a size has
abbrev pub bits_of : Size → ℕ
bits_of Byte = 8
bits_of Word = 16
bits_of Long = 32

-- the low n bits of x
abbrev pub low : (n x : ℕ) → ℕ
low n x = x % 2 ^ n

-- bit k of x, counted from 0
abbrev pub bit : (k x : ℕ) → Bool
bit k x = eqb (x / 2 ^ k % 2) 1

-- the lowest bit
abbrev pub lowest : ℕ → Bool
lowest x = eqb (x % 2) 1

-- the highest of n bits: the Manual's Sm, Dm, Rm
unfoldable pub top : (n x : ℕ) → Bool
top n x = bit (n - 1) x

-- n bits that are all set, and the highest of them alone
abbrev pub width_of : ℕ → Width
width_of n = record { mask = 2 ^ n - 1; top = 2 ^ (n - 1) }

-- a flag as a number
abbrev pub digit : Bool → ℕ
digit = from_bool

-- the number whose low n bits are a and whose bits above are b
abbrev pub join : (n a b : ℕ) → ℕ
join n a b = b * 2 ^ n + a

-- the signed reading of n bits (two's complement): the low bits, less 2 ^ n if the top bit is set
unfoldable pub signed : (n x : ℕ) → ℤ
signed n x = pos (low n x) -ℤ pos (digit (top n x) * 2 ^ n)

-- z is the signed reading of some n bits: -2 ^ (n - 1) ≤ z < 2 ^ (n - 1)
abbrev pub fits : ℕ → ℤ → Bool
fits n z = le_z (neg_ℤ (pos (2 ^ (n - 1)))) z && lt_z z (pos (2 ^ (n - 1)))

-- the signed reading raised by 2 ^ (n - 1), so that it is a natural number: 0 stands for the least, 2 ^ n - 1 for the greatest
-- (a term of private contracts and of laws)
unfoldable pub raised : (n x : ℕ) → ℕ
raised n x = (x + 2 ^ (n - 1)) % 2 ^ n

-- the n bits turned over
abbrev pub complement : (n x : ℕ) → ℕ
complement n x = 2 ^ n - 1 - low n x

-- the low k bits sign-extended to n, for k up to n: copies of their top bit in the places k to n - 1
unfoldable pub extended : (k n x : ℕ) → ℕ
extended k n x = low k x + digit (top k x) * (2 ^ n - 2 ^ k)

-- x with bit k made b. From the lowest: the bits below k, then b, then the bits above k
unfoldable pub with_bit : (k : ℕ) → (b : Bool) → (x : ℕ) → ℕ
with_bit k b x = join (k + 1) (join k (low k x) (digit b)) (x / 2 ^ (k + 1))
