-- Texts as lists of bytes: how a byte parts a text, digits, and numbers in decimal and in hexadecimal, both ways. `cond test yes no` is a choice.
-- Assumes nothing.
use Rattle.std.specs.Prelude.{ℕ, zero, suc, ◌+◌, ◌-◌, ◌*◌, ◌/◌, ◌%◌, ◌^◌, Bool, true, false, cond, ◌&&◌, List, [], ◌∷◌, ◌++◌, length, ◌==◌, nat_lt, slice_index, Option, Some, None, unwrap_or}
use Prim.Native.Char.{code}
use Prim.Native.String.{String, [] as none, ◌∷◌ as ◌then◌}

-- the bytes of an ASCII text
abbrev pub ascii : String → List ℕ
ascii none = []
ascii (c then s) = code c ∷ ascii s

unfoldable pub same_bytes : List ℕ → List ℕ → Bool
same_bytes [] [] = true
same_bytes [] (y ∷ ys) = false
same_bytes (x ∷ xs) [] = false
same_bytes (x ∷ xs) (y ∷ ys) = x == y && same_bytes xs ys

-- ---- parts

-- A byte b parts a text: what stands before the first b, and the parts after it, one for each b.
unfoldable pub before : (b : ℕ) → List ℕ → List ℕ
before b [] = []
before b (x ∷ xs) = cond (x == b) [] (x ∷ before b xs)

unfoldable pub after : (b : ℕ) → List ℕ → List (List ℕ)
after b [] = []
after b (x ∷ xs) = cond (x == b) (before b xs ∷ after b xs) (after b xs)

-- all of them: `parts 10` are a text's lines, and what stands behind the last byte 10; `parts 9` are a line's fields
abbrev pub parts : (b : ℕ) → List ℕ → List (List ℕ)
parts b xs = before b xs ∷ after b xs

-- ---- digits

-- a byte as a decimal digit, 48 to 57
abbrev pub byte_digit : ℕ → Option ℕ
byte_digit b = cond (nat_lt b 48) None (cond (nat_lt 57 b) None (Some (b - 48)))

-- a byte as a hexadecimal digit: those, and A to F, 65 to 70
unfoldable pub hex_digit : ℕ → Option ℕ
hex_digit b = cond (nat_lt b 65) (byte_digit b) (cond (nat_lt 70 b) None (Some (b - 55)))

-- a field as one decimal digit
unfoldable pub digit_of : List ℕ → Option ℕ
digit_of field = cond (length field == 1) (byte_digit (slice_index field 0)) None

-- ---- the value of digits

-- what a byte counts as a digit, 0 if it is none, in any base (A to F in decimal too: the field is then not the writing of its value)
abbrev pub worth_of : ℕ → ℕ
worth_of b = unwrap_or (hex_digit b) 0

-- the value in a base of more digits behind those of the value v
unfoldable pub value_from : (base v : ℕ) → List ℕ → ℕ
value_from base v [] = v
value_from base v (x ∷ xs) = value_from base (v * base + worth_of x) xs

-- the value of a text's digits, the first counts most; a byte that is no hexadecimal digit counts as 0
abbrev pub value_of : (base : ℕ) → List ℕ → ℕ
value_of base xs = value_from base 0 xs

-- ---- decimal

-- the last digits of n in decimal, f of them at most
unfoldable pub decimal_in : (f n : ℕ) → List ℕ
decimal_in zero n = []
decimal_in (suc f) n = cond (nat_lt n 10) ((48 + n) ∷ []) (decimal_in f (n / 10) ++ ((48 + n % 10) ∷ []))

-- a number below 10^20 in decimal, without leading zeros
abbrev pub decimal_of : ℕ → List ℕ
decimal_of n = decimal_in 20 n

-- a field as a number below 2^64: the one whose writing it is
unfoldable pub decimal_read : List ℕ → Option ℕ
decimal_read field =
    cond (nat_lt (value_of 10 field) (2 ^ 64) && same_bytes field (decimal_of (value_of 10 field))) (Some (value_of 10 field)) None

-- ---- hexadecimal

-- a digit as a byte: 0 to 9, then A to F
abbrev pub hex_byte : ℕ → ℕ
hex_byte d = cond (nat_lt d 10) (48 + d) (55 + d)

-- the last k digits of n in hexadecimal
unfoldable pub hex_in : (k n : ℕ) → List ℕ
hex_in zero n = []
hex_in (suc k) n = hex_in k (n / 16) ++ (hex_byte (n % 16) ∷ [])

-- a number below 2^32 in hexadecimal, eight digits
abbrev pub hex_of : ℕ → List ℕ
hex_of n = hex_in 8 n

-- a field as a number below 2^32: the one whose writing it is
unfoldable pub hex_read : List ℕ → Option ℕ
hex_read field = cond (nat_lt (value_of 16 field) (2 ^ 32) && same_bytes field (hex_of (value_of 16 field))) (Some (value_of 16 field)) None
