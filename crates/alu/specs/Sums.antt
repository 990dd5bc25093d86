-- Document 01, "Proved sums", as one table: an operation for any incoming flags, and what document 01 says of its answer. Sums 1 to
-- 11; sum 12 needs a run.
-- `proofs/Sums.antt` has the one statement, that every row holds. Assumes nothing.
use Rattle.std.specs.Prelude.{ℕ, Bool, true, false, not, ◌&&◌, List, [], ◌∷◌, eqb}
use Rattle.std.specs.Bool.{beq}
use Rattle.alu.specs.declared.types.Size.TheVariants.{Byte, Word, Long}
use Rattle.alu.specs.declared.types.Flags.{Flags}
use Rattle.alu.specs.declared.types.Answer.{Answer}
use Rattle.alu.specs.declared.types.Check.{Check}
use Rattle.alu.specs.declared.types.Check.TheVariants.{Pass, Over, Short, Below}
use Rattle.alu.specs.declared.types.Checked.{Checked}
use Rattle.alu.specs.declared.shift_rotate.ShiftOp.TheVariants.{Asl, Asr, Lsl, Rol, Roxl}
use Rattle.alu.specs.Answers.{number_of, class_of}
use Rattle.alu.specs.Arith.{add_of, addx_of, subx_of, neg_of, chk_of}
use Rattle.alu.specs.Shifts.{shift_of}

-- what a row says of a flag: set (on), clear (off), the same as before the operation, or anything
pub data Said : Type 0 where
  on : Said
  off : Said
  same : Said
  any : Said

-- a row: an operation on the flags before; its result; X N Z V C after. `gives_in` has the clock figure too; `finds` has CHK's class, and of the
-- flags N alone
pub data Row : Type 0 where
  gives : (Flags → Answer) → (result : ℕ) → (x n z v c : Said) → Row
  gives_in : (clocks : ℕ) → (Flags → Answer) → (result : ℕ) → (x n z v c : Said) → Row
  finds : (Flags → Checked) → Check → (n : Said) → Row

-- the flags with X set
abbrev with_x : Flags → Flags
with_x f = record { x = true; n = f.n; z = f.z; v = f.v; c = f.c }

unfoldable pub table : List Row
table =
    -- operation (source, then destination), result, then X N Z V C
    gives (add_of Byte 0x01 0x7f) 0x80 off on off on off ∷  -- 1
    gives (add_of Byte 0x01 0xff) 0x00 on off on off on ∷  -- 2
    gives (λ f. addx_of Long 0 0xffff_ffff (with_x f)) 0 on any same any on ∷  -- 3
    gives (λ f. subx_of Byte 0xff 0x00 (with_x f)) 0x00 on any same off on ∷  -- 4
    gives (neg_of Byte 0x80) 0x80 on on off on on ∷  -- 5
    -- shifts: count, then value
    gives (shift_of Asl Byte 8 0x01) 0x00 on any on on on ∷  -- 6, by 8
    gives (shift_of Asl Byte 9 0x01) 0x00 off any on on off ∷  -- 6, by 9
    gives (shift_of Asr Byte 9 0x80) 0xff on on any any on ∷  -- 7
    gives (shift_of Lsl Byte 0 0x1234) 0x1234 any off off off off ∷  -- 8, by 0
    gives (shift_of Lsl Byte 64 0x1234) 0x1234 any off off off off ∷  -- 8, by 64
    gives_in 22 (shift_of Rol Byte 8 0x81) 0x81 any on any any on ∷  -- 9
    gives_in 40 (λ f. shift_of Roxl Word 17 0x8001 (with_x f)) 0x8001 on on any any on ∷  -- 10
    -- CHK: bound, then value; class, then N
    finds (chk_of Word 0x0001 0x8000) Short any ∷  -- 11, 8000 bound 0001
    finds (chk_of Word 0x0000 0x8000) Below any ∷  -- 11, 8000 bound 0000
    finds (chk_of Word 0xfffe 0xffff) Over on ∷  -- 11, FFFF bound FFFE
    finds (chk_of Word 5 5) Pass any ∷ []  -- 11, 5 bound 5

-- `after` is what a row says of a flag that was `before`
abbrev pub meets : Said → (before after : Bool) → Bool
meets on before after = after
meets off before after = not after
meets same before after = beq before after
meets any before after = true

-- an accepted answer with that result and those flags
unfoldable pub answers : Answer → (before : Flags) → (result : ℕ) → (x n z v c : Said) → Bool
answers a f result x n z v c =
    let g = a.flags in
    eqb (number_of a.verdict) 0 && eqb a.result result && meets x f.x g.x && meets n f.n g.n && meets z f.z g.z &&
    meets v f.v g.v && meets c f.c g.c

-- an accepted answer with that class and that N
unfoldable pub found : Checked → (before : Flags) → Check → (n : Said) → Bool
found k f class n =
    eqb (number_of k.answer.verdict) 0 && eqb (class_of k.check) (class_of class) && meets n f.n k.answer.flags.n

unfoldable pub holds_at : Row → Flags → Bool
holds_at (gives operation result x n z v c) f = answers (operation f) f result x n z v c
holds_at (gives_in clocks operation result x n z v c) f =
    let a = operation f in eqb a.clocks clocks && answers a f result x n z v c
holds_at (finds operation class n) f = found (operation f) f class n

-- for both settings of a flag, and for each of the 32 settings of all five
unfoldable pub at_both : (Bool → Bool) → Bool
at_both test = test true && test false

unfoldable pub always : (Flags → Bool) → Bool
always test = at_both (λ x. at_both (λ n. at_both (λ z. at_both (λ v. at_both (λ c. test (record { x = x; n = n; z = z; v = v; c = c }))))))

-- a row holds whatever the flags before
unfoldable pub holds : Row → Bool
holds row = always (holds_at row)

-- for every element
unfoldable pub every : {A : Type 0} → (A → Bool) → List A → Bool
every test [] = true
every test (a ∷ rest) = test a && every test rest
