-- `check` meets its contract: each return has made the comparisons that its class asks for.
-- Assumes nothing.
use mathlib.Core.Path.{◌≡◌, ◌∙◌, sym}
use mathlib.Core.Bool.{true, false, ◌&&◌}
use Prim.Native.Nat.{◌+◌}
use native.Mathlib.Omega.{arith}
use lib.Dec.{ltb, lit<}
use borrow.Author.Tests.{lt-ltb, le-ltb}
use Rattle.alu.proofs.Bounds.{raised_lt}
use Rattle.alu.proofs.Checks.{check_raised}
use Rattle.alu.proofs.integer_arith.check.Goals as goal

pub overflow_add-far : goal.overflow_add-far
overflow_add-far c = omega (arith, raised_lt 16 c.args.value)

pub returns-then-b-v : goal.returns-then-b-v
returns-then-b-v c =
    let a = c.args in
    let b = c.raised-b.result in
    let v = c.raised-v.result in
    let over : ltb b v ≡ true = lt-ltb b v (omega arith) in
    sym (check_raised 16 (lit< tt) a.bound a.value c.raised-b.ensures c.raised-v.ensures ∙ rw (over))

pub returns-then-below-far : goal.returns-then-below-far
returns-then-below-far c =
    let a = c.args in
    let b = c.raised-b.result in
    let v = c.raised-v.result in
    let over : ltb b v ≡ false = le-ltb b v (omega arith) in
    let short : (ltb v 0x8000 && ltb (v + 0x8000) b) ≡ true = c.if-below-far.true in
    sym (check_raised 16 (lit< tt) a.bound a.value c.raised-b.ensures c.raised-v.ensures ∙ rw (over, short))

pub returns-then-below : goal.returns-then-below
returns-then-below c =
    let a = c.args in
    let b = c.raised-b.result in
    let v = c.raised-v.result in
    let over : ltb b v ≡ false = le-ltb b v (omega arith) in
    let short : (ltb v 0x8000 && ltb (v + 0x8000) b) ≡ false = c.if-below-far.false in
    let below : ltb v 0x8000 ≡ true = lt-ltb v 0x8000 c.if-below.true in
    sym (check_raised 16 (lit< tt) a.bound a.value c.raised-b.ensures c.raised-v.ensures ∙ rw (over, short, below))

pub returns-else-below : goal.returns-else-below
returns-else-below c =
    let a = c.args in
    let b = c.raised-b.result in
    let v = c.raised-v.result in
    let over : ltb b v ≡ false = le-ltb b v (omega arith) in
    let short : (ltb v 0x8000 && ltb (v + 0x8000) b) ≡ false = c.if-below-far.false in
    let below : ltb v 0x8000 ≡ false = le-ltb v 0x8000 c.if-below.false in
    sym (check_raised 16 (lit< tt) a.bound a.value c.raised-b.ensures c.raised-v.ensures ∙ rw (over, short, below))
