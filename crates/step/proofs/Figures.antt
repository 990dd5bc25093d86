-- A step's clock figure. It is its operation's but for document 02's six, which are 4 or 2 above it or 2 below (`figure_differs`); a refused step has 0
-- (`refused_free` of Sound). It is below 2 ^ 8 (`perform_small`), so it has 32 bits, which is all that the laws of runs ask of it (`perform_fits`).
-- Assumes nothing.
use Rattle.std.proofs.Common.{◌≡◌, ℕ, ◌+◌, ◌^◌, ◌<◌, Bool, true, false, cond, ◌&&◌, ltb, refl, ap, ◌∙◌, arith, lit<, lit≤}
use Rattle.alu.specs.declared.types.Size.{Size}
use Rattle.alu.specs.declared.types.Size.TheVariants.{Byte, Word, Long}
use Rattle.alu.specs.declared.types.Flags.{Flags}
use Rattle.alu.specs.declared.bit_manip.BitOp.{BitOp}
use Rattle.alu.specs.declared.bit_manip.BitOp.TheVariants.{Btst, Bset, Bclr, Bchg}
use Rattle.alu.specs.Answers.{figure}
use Rattle.alu.specs.Bitops.{bitop_of}
use Rattle.alu.proofs.Figures.{size_small, unless_small, shift_small, bit_small, chk_small}
use Rattle.step.specs.declared.registers.State.{State}
use Rattle.step.specs.declared.forms.TwoOp.{TwoOp}
use Rattle.step.specs.declared.forms.TwoOp.TheVariants.{Add, Sub, Cmp, Addx, Subx}
use Rattle.step.specs.declared.forms.AddressOp.{AddressOp}
use Rattle.step.specs.declared.forms.AddressOp.TheVariants.{Adda, Suba, Cmpa}
use Rattle.step.specs.declared.forms.QuickOp.{QuickOp}
use Rattle.step.specs.declared.forms.QuickOp.TheVariants.{Addq, Subq}
use Rattle.step.specs.declared.forms.OneOp.{OneOp}
use Rattle.step.specs.declared.forms.OneOp.TheVariants.{Clr, Neg, Negx, Not, Ext}
use Rattle.step.specs.declared.forms.Register.TheVariants as Register
use Rattle.step.specs.declared.forms.Form.{Form}
use Rattle.step.specs.declared.forms.Form.TheVariants.{Two, Address, Quick, One, Shift, Bit, Chk}
use Rattle.step.specs.declared.forms.Step.{Step}
use Rattle.step.specs.declared.steps.Performed.{Performed}
use Rattle.step.specs.Registers.{data_of}
use Rattle.step.specs.Perform.{Ruling, Sound, Faulty, there, count_there, count_within, is_long, two_of, on_address_of, quick_of, quick_address_of, one_of, ruling_of, count_value}
use Rattle.step.specs.Perform.{operated_of, figure_of_two, figure_of_bit, act_of, judged, perform_form, perform_of}
use Rattle.step.proofs.Laws.{no}
use Rattle.step.proofs.Sound.{passed}

-- ---- beside the operation's

-- what a step's figure has above its operation's, by document 02, item 3: long ADD, SUB, ADDX, SUBX 4, long CMP 2
abbrev pub above_two : TwoOp → ℕ
above_two Add = 4
above_two Sub = 4
above_two Cmp = 2
above_two Addx = 4
above_two Subx = 4

abbrev pub above : Size → Form → ℕ
above size (Two op r t) = figure size 0 (above_two op)
above size (Address op r t) = 0
above size (Quick op k t) = 0
above size (One op t) = 0
above size (Shift op c t) = 0
above size (Bit op c t) = 0
above size (Chk r t) = 0

-- and what it lacks: of BCLR below bit 16 it is 2
abbrev pub lacking : BitOp → (number : ℕ) → ℕ
lacking Btst number = 0
lacking Bset number = 0
lacking Bclr number = cond (ltb number 16) 2 0
lacking Bchg number = 0

abbrev pub below : State → Form → ℕ
below s (Two op r t) = 0
below s (Address op r t) = 0
below s (Quick op k t) = 0
below s (One op t) = 0
below s (Shift op c t) = 0
below s (Bit op c t) = lacking op (count_value s 32 c)
below s (Chk r t) = 0

by_size : (size : Size) (k m : ℕ) → figure size k (k + m) + 0 ≡ k + figure size 0 m
by_size Byte k m = omega arith
by_size Word k m = omega arith
by_size Long k m = omega arith

two_differs : (op : TwoOp) (size : Size) (s d : ℕ) (f : Flags) → let k = (two_of op size s d f).clocks in figure_of_two op size k + 0 ≡ k + figure size 0 (above_two op)
two_differs Add size s d f = by_size size 4 4
two_differs Sub size s d f = by_size size 4 4
two_differs Cmp size s d f = by_size size 4 2
two_differs Addx size s d f = by_size size 4 4
two_differs Subx size s d f = by_size size 4 4

at_edge : (b : Bool) → cond b 8 10 + cond b 2 0 ≡ 10 + 0
at_edge true = refl
at_edge false = refl

bit_differs : (op : BitOp) (size : Size) (number d : ℕ) (f : Flags) → is_long size ≡ true
    → let k = (bitop_of op size number d f).clocks in figure_of_bit op number k + lacking op number ≡ k + 0
unfolding bitop_of
bit_differs op Byte number d f e = no e
bit_differs op Word number d f e = no e
bit_differs Btst Long number d f e = refl
bit_differs Bset Long number d f e = refl
bit_differs Bclr Long number d f e = at_edge (ltb number 16)
bit_differs Bchg Long number d f e = refl

act_differs : (s : State) (size : Size) (form : Form) → ruling_of size form ≡ Sound → (act_of s size form).clocks + below s form ≡ (operated_of s size form).clocks + above size form
act_differs s size (Two op r t) e = two_differs op size (data_of s r) (data_of s t) s.flags
act_differs s size (Address op r t) e = refl
act_differs s size (Quick op k (Register.Data t)) e = refl
act_differs s size (Quick op k (Register.Address t)) e = refl
act_differs s size (One op t) e = refl
act_differs s size (Shift op c t) e = refl
act_differs s size (Bit op c t) e =
    bit_differs op size (count_value s 32 c) (data_of s t) s.flags (passed (count_there c && there t.0) (is_long size) (count_within 0 31 c) e).0
act_differs s size (Chk r t) e = refl

-- the two figures of a step that is not refused
pub figure_differs : (s : State) (size : Size) (form : Form) → ruling_of size form ≡ Sound
    → (perform_form s size form).clocks + below s form ≡ (operated_of s size form).clocks + above size form
figure_differs s size form e = ap (λ (w : Ruling). (judged w s (act_of s size form)).clocks + below s form) e ∙ act_differs s size form e

-- ---- its bound

two_small : (op : TwoOp) (size : Size) (s d : ℕ) (f : Flags) → figure_of_two op size (two_of op size s d f).clocks < 2 ^ 8
two_small Add size s d f = size_small size 8 (lit≤ tt)
two_small Sub size s d f = size_small size 8 (lit≤ tt)
two_small Cmp size s d f = size_small size 6 (lit≤ tt)
two_small Addx size s d f = size_small size 8 (lit≤ tt)
two_small Subx size s d f = size_small size 8 (lit≤ tt)

address_small : (op : AddressOp) (size : Size) (s d : ℕ) (f : Flags) → (on_address_of op size s d f).clocks < 2 ^ 8
address_small Adda size s d f = unless_small size f _ (lit< tt)
address_small Suba size s d f = unless_small size f _ (lit< tt)
address_small Cmpa size s d f = unless_small size f _ (lit< tt)

quick_small : (op : QuickOp) (size : Size) (s d : ℕ) (f : Flags) → (quick_of op size s d f).clocks < 2 ^ 8
quick_small Addq size s d f = size_small size 8 (lit≤ tt)
quick_small Subq size s d f = size_small size 8 (lit≤ tt)

quick_address_small : (op : QuickOp) (size : Size) (s d : ℕ) (f : Flags) → (quick_address_of op size s d f).clocks < 2 ^ 8
quick_address_small Addq size s d f = unless_small size f _ (lit< tt)
quick_address_small Subq size s d f = unless_small size f _ (lit< tt)

one_small : (op : OneOp) (size : Size) (d : ℕ) (f : Flags) → (one_of op size d f).clocks < 2 ^ 8
one_small Clr size d f = size_small size 6 (lit≤ tt)
one_small Neg size d f = size_small size 6 (lit≤ tt)
one_small Negx size d f = size_small size 6 (lit≤ tt)
one_small Not size d f = size_small size 6 (lit≤ tt)
one_small Ext size d f = unless_small size f _ (lit< tt)

edge_small : (b : Bool) {k : ℕ} → k < 2 ^ 8 → cond b 8 k < 2 ^ 8
edge_small true h = lit< tt
edge_small false h = h

numbered_small : (op : BitOp) (number k : ℕ) → k < 2 ^ 8 → figure_of_bit op number k < 2 ^ 8
numbered_small Btst number k h = h
numbered_small Bset number k h = h
numbered_small Bclr number k h = edge_small (ltb number 16) h
numbered_small Bchg number k h = h

act_small : (s : State) (size : Size) (form : Form) → (act_of s size form).clocks < 2 ^ 8
act_small s size (Two op r t) = two_small op size _ _ s.flags
act_small s size (Address op r t) = address_small op size _ _ s.flags
act_small s size (Quick op k (Register.Data t)) = quick_small op size k _ s.flags
act_small s size (Quick op k (Register.Address t)) = quick_address_small op size k _ s.flags
act_small s size (One op t) = one_small op size _ s.flags
act_small s size (Shift op c t) = shift_small op size _ _ s.flags
act_small s size (Bit op c t) = numbered_small op (count_value s 32 c) _ (bit_small op size _ _ s.flags)
act_small s size (Chk r t) = chk_small size _ _ s.flags

judged_small : (x : Ruling) (s : State) (done : Performed) → done.clocks < 2 ^ 8 → (judged x s done).clocks < 2 ^ 8
judged_small Sound s done h = h
judged_small (Faulty fault) s done h = lit< tt

pub perform_small : (s : State) (k : Step) → (perform_of s k).clocks < 2 ^ 8
perform_small s k = judged_small (ruling_of k.size k.form) s (act_of s k.size k.form) (act_small s k.size k.form)

pub perform_fits : (s : State) (k : Step) → (perform_of s k).clocks < 2 ^ 32
perform_fits s k = omega (arith, perform_small s k)
