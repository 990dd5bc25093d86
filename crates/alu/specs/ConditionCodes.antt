-- The condition codes: the Manual's table of condition code computations, its rows of integer arithmetic and of the logic operations. (V and C of
-- the shifts are in Shifts, CHK's flags in Arith, Z of the bit operations in Bitops.) And the flags as one byte.
-- s, d and r are the source, the destination and the result; the formulas take their top bits Sm, Dm, Rm. n is the number of bits;
-- the field `n` of `Flags` is the flag N. Assumes nothing.
use Rattle.std.specs.Prelude.{ℕ, ◌+◌, ◌*◌, Bool, false, not, ◌&&◌, ◌||◌, eqb}
use Rattle.alu.specs.declared.types.Flags.{Flags}
use Rattle.alu.specs.Bits.{low, top, bit, digit}

-- ADD, ADDX
abbrev pub add_v : (s d r : Bool) → Bool
add_v s d r = s && d && not r || not s && not d && r

abbrev pub add_c : (s d r : Bool) → Bool
add_c s d r = s && d || not r && d || s && not r

-- SUB, SUBX, CMP
abbrev pub sub_v : (s d r : Bool) → Bool
sub_v s d r = not s && d && not r || s && not d && r

abbrev pub sub_c : (s d r : Bool) → Bool
sub_c s d r = s && not d || r && not d || s && r

-- NEG, NEGX
abbrev pub neg_v : (d r : Bool) → Bool
neg_v d r = d && r

abbrev pub neg_c : (d r : Bool) → Bool
neg_c d r = d || r

-- N = Rm, Z = no bit of the result is set; X, V and C as given
abbrev pub result_flags : (n r : ℕ) (x v c : Bool) → Flags
result_flags n r x v c = record { x = x; n = top n r; z = eqb (low n r) 0; v = v; c = c }

-- the arithmetic rows: X = C
abbrev pub arith_flags : (n r : ℕ) (v c : Bool) → Flags
arith_flags n r v c = result_flags n r c v c

-- the row of ADD, of SUB and of NEG, in n bits
unfoldable pub add_flags : (n s d r : ℕ) → Flags
add_flags n s d r = arith_flags n r (add_v (top n s) (top n d) (top n r)) (add_c (top n s) (top n d) (top n r))

unfoldable pub sub_flags : (n s d r : ℕ) → Flags
sub_flags n s d r = arith_flags n r (sub_v (top n s) (top n d) (top n r)) (sub_c (top n s) (top n d) (top n r))

unfoldable pub neg_flags : (n d r : ℕ) → Flags
neg_flags n d r = arith_flags n r (neg_v (top n d) (top n r)) (neg_c (top n d) (top n r))

-- ADDX, SUBX, NEGX: Z is cleared by a nonzero result and otherwise kept
abbrev pub keep_z : (old new : Flags) → Flags
keep_z old new = record { x = new.x; n = new.n; z = old.z && new.z; v = new.v; c = new.c }

-- CMP, CMPA: X is kept
abbrev pub keep_x : (old new : Flags) → Flags
keep_x old new = record { x = old.x; n = new.n; z = new.z; v = new.v; c = new.c }

-- the row of the logic operations, here of CLR, NOT and EXT: N and Z of the result, V and C cleared, X kept
unfoldable pub logic_flags : (n r : ℕ) → Flags → Flags
logic_flags n r f = result_flags n r f.x false false

-- the flags as the 68000 packs them in a byte: X 16, N 8, Z 4, V 2, C 1; bits above do not count
abbrev pub flags_of : (ccr : ℕ) → Flags
flags_of ccr = record { x = bit 4 ccr; n = bit 3 ccr; z = bit 2 ccr; v = bit 1 ccr; c = bit 0 ccr }

abbrev pub ccr_of : Flags → ℕ
ccr_of f = digit f.x * 16 + digit f.n * 8 + digit f.z * 4 + digit f.v * 2 + digit f.c

-- the condition LT of the Manual's conditional tests, of the flags N and V: a term of the laws alone
abbrev pub is_lt : (n v : Bool) → Bool
is_lt n v = n && not v || not n && v
