-- What the floor above relies on: the long steps of recipes, by their results and flags. It is stated of any step function and any operations
-- (`Steps`, `Promises`), so that recipes never open a definition of the crate alu, and shown of `perform_of` (`performs`). Assumes nothing.
--     Promises      the first step of a chain is its other step from other flags (`add` to `asr`); N, Z and V of a word in a chain (`addx`, `subx`, `negx`);
--                   each word's balance, which says value and X out at once (`addx_sum` to `roxr_sum`); CLR and NOT
--     Steps         a legal step is done, leaves what the operation answers, and has a figure that doesn't hang on the state
use Rattle.std.proofs.Common.{◌≡◌, ℕ, ◌+◌, ◌-◌, ◌*◌, ◌^◌, ◌<◌, Bool, true, false, ◌&&◌, eqb, get_or, set, sym, refl, ap, ◌∙◌, mod-eq_of_lt, arith, lt-ltb}
use mathlib.Core.Path.{subst⁻¹}
use Rattle.alu.specs.declared.types.Size.{Size}
use Rattle.alu.specs.declared.types.Size.TheVariants.{Long}
use Rattle.alu.specs.declared.types.Flags.{Flags}
use Rattle.alu.specs.declared.types.Answer.{Answer}
use Rattle.alu.specs.declared.shift_rotate.ShiftOp.{ShiftOp}
use Rattle.alu.specs.declared.shift_rotate.ShiftOp.TheVariants.{Asl, Asr, Lsl, Lsr, Rol, Ror, Roxl, Roxr}
use Rattle.alu.specs.declared.shift_rotate.Held.{Held}
use Rattle.alu.specs.Bits.{low, top, digit}
use Rattle.alu.specs.ConditionCodes.{add_v, sub_v, neg_v, add_flags, sub_flags, neg_flags, logic_flags, result_flags, arith_flags, keep_z}
use Rattle.alu.specs.Arith.{sum, difference}
use Rattle.alu.specs.Shifts.{left, right, turn, turns, shift_of}
use Rattle.alu.proofs.Laws.{sum_lt, difference_lt, add_exact, sub_exact, neg_flags_lem}
use Rattle.alu.proofs.Turns.{top_low, left_exact, right_exact}
use Rattle.alu.proofs.Bounds.{low_lt, digit_le}
use Rattle.step.specs.declared.registers.State.{State}
use Rattle.step.specs.declared.forms.TwoOp.{TwoOp}
use Rattle.step.specs.declared.forms.TwoOp.TheVariants.{Add, Sub, Cmp, Addx, Subx}
use Rattle.step.specs.declared.forms.OneOp.{OneOp}
use Rattle.step.specs.declared.forms.OneOp.TheVariants.{Clr, Neg, Negx, Not, Ext}
use Rattle.step.specs.declared.forms.Count.TheVariants as Count
use Rattle.step.specs.declared.forms.Form.{Form}
use Rattle.step.specs.declared.forms.Form.TheVariants.{Two, Address, Quick, One, Shift, Bit, Chk}
use Rattle.step.specs.declared.forms.Step.{Step}
use Rattle.step.specs.declared.steps.Outcome.{Outcome}
use Rattle.step.specs.declared.steps.Outcome.TheVariants.{Done}
use Rattle.step.specs.declared.steps.Performed.{Performed}
use Rattle.step.specs.Perform.{two_of, one_of, one_size, ruling_of, figure_of_two, act_of, judged, perform_of}

abbrev pub word : ℕ
word = 2 ^ 32

-- ---- the steps that recipes use: long, with register numbers 0 to 7, shifts by #1

abbrev pub UsedTwo : TwoOp → Type 0
UsedTwo Add = Unit {0}
UsedTwo Sub = Unit {0}
UsedTwo Cmp = ⊥
UsedTwo Addx = Unit {0}
UsedTwo Subx = Unit {0}

abbrev pub UsedOne : OneOp → Type 0
UsedOne Clr = Unit {0}
UsedOne Neg = Unit {0}
UsedOne Negx = Unit {0}
UsedOne Not = Unit {0}
UsedOne Ext = ⊥

abbrev pub UsedShift : ShiftOp → Type 0
UsedShift Asl = ⊥
UsedShift Asr = Unit {0}
UsedShift Lsl = Unit {0}
UsedShift Lsr = Unit {0}
UsedShift Rol = ⊥
UsedShift Ror = ⊥
UsedShift Roxl = Unit {0}
UsedShift Roxr = Unit {0}

abbrev pub LegalForm : Form → Type 0
LegalForm (Two op p q) = UsedTwo op × (p.0 < 8) × (q.0 < 8)
LegalForm (Address op p q) = ⊥
LegalForm (Quick op k p) = ⊥
LegalForm (One op q) = UsedOne op × (q.0 < 8)
LegalForm (Shift op (Count.Small k) q) = UsedShift op × (k ≡ 1) × (q.0 < 8)
LegalForm (Shift op (Count.Data r) q) = ⊥
LegalForm (Bit op c q) = ⊥
LegalForm (Chk p q) = ⊥

abbrev pub Legal : Step → Type 0
Legal k = (k.size ≡ Long) × LegalForm k.form

-- ---- operations by what they leave

pub record Left : Type 0 where
  pub result : ℕ
  pub flags : Flags

-- the long operations on source, destination and flags; a shift is by 1
pub record Alu : Type 0 where
  pub two : TwoOp → (s d : ℕ) → Flags → Left
  pub one : OneOp → (d : ℕ) → Flags → Left
  pub shift : ShiftOp → (d : ℕ) → Flags → Left

abbrev pub register : State → ℕ → ℕ
register s i = get_or s.d i 0

-- what an operation leaves, stored in data register q
abbrev pub put : State → ℕ → Left → State
put s q r = record { d = set s.d q r.result; a = s.a; flags = r.flags }

-- what a legal step leaves
abbrev pub applied_form : Alu → Form → State → State
applied_form m (Two op p q) s = put s q.0 (m.two op (register s p.0) (register s q.0) s.flags)
applied_form m (Address op p q) s = s
applied_form m (Quick op k p) s = s
applied_form m (One op q) s = put s q.0 (m.one op (register s q.0) s.flags)
applied_form m (Shift op k q) s = put s q.0 (m.shift op (register s q.0) s.flags)
applied_form m (Bit op c q) s = s
applied_form m (Chk p q) s = s

abbrev pub applied : Alu → Step → State → State
applied m k s = applied_form m k.form s

-- ---- the promises

abbrev pub with_x : Bool → Flags → Flags
with_x b f = record { x = b; n = f.n; z = f.z; v = f.v; c = f.c }

-- X clear and Z set: from these flags ADDX is ADD
abbrev pub fresh : Flags → Flags
fresh f = record { x = false; n = f.n; z = true; v = f.v; c = f.c }

-- a result of n bits in a chain: N and C come from it, V is given, Z is only ever cleared
pub record Linked (n : ℕ) (f : Flags) (over : Bool) (r : Left) : Type 0 where
  pub below : r.result < 2 ^ n
  pub sign : r.flags.n ≡ top n r.result
  pub zero : r.flags.z ≡ f.z && eqb r.result 0
  pub overflow : r.flags.v ≡ over
  pub carry : r.flags.c ≡ r.flags.x

pub record Promises (m : Alu) : Type 0 where
  pub add : (s d : ℕ) (f : Flags) → m.two Add s d f ≡ m.two Addx s d (fresh f)
  pub sub : (s d : ℕ) (f : Flags) → m.two Sub s d f ≡ m.two Subx s d (fresh f)
  pub neg : (d : ℕ) (f : Flags) → m.one Neg d f ≡ m.one Negx d (fresh f)
  pub lsl : (d : ℕ) (f : Flags) → m.shift Lsl d f ≡ m.shift Roxl d (fresh f)
  pub lsr : (d : ℕ) (f : Flags) → m.shift Lsr d f ≡ m.shift Roxr d (with_x false f)
  pub asr : (d : ℕ) (f : Flags) → m.shift Asr d f ≡ m.shift Roxr d (with_x (top 32 d) f)
  pub addx : (s d : ℕ) (f : Flags) → Linked 32 f (add_v (top 32 s) (top 32 d) (top 32 (m.two Addx s d f).result)) (m.two Addx s d f)
  pub subx : (s d : ℕ) (f : Flags) → Linked 32 f (sub_v (top 32 s) (top 32 d) (top 32 (m.two Subx s d f).result)) (m.two Subx s d f)
  pub negx : (d : ℕ) (f : Flags) → Linked 32 f (neg_v (top 32 d) (top 32 (m.one Negx d f).result)) (m.one Negx d f)
  pub addx_sum : (s d : ℕ) (f : Flags) → s < word → d < word
      → d + s + digit f.x ≡ (m.two Addx s d f).result + word * digit (m.two Addx s d f).flags.x
  pub subx_sum : (s d : ℕ) (f : Flags) → s < word → d < word
      → (m.two Subx s d f).result + s + digit f.x ≡ d + word * digit (m.two Subx s d f).flags.x
  pub negx_sum : (d : ℕ) (f : Flags) → d < word → (m.one Negx d f).result + d + digit f.x ≡ word * digit (m.one Negx d f).flags.x
  pub roxl : (d : ℕ) (f : Flags) → (m.shift Roxl d f).result < word
  pub roxl_sum : (d : ℕ) (f : Flags) → d < word → 2 * d + digit f.x ≡ (m.shift Roxl d f).result + word * digit (m.shift Roxl d f).flags.x
  pub roxr : (d : ℕ) (f : Flags) → (m.shift Roxr d f).result < word
  pub roxr_sum : (d : ℕ) (f : Flags) → d < word → 2 * (m.shift Roxr d f).result + digit (m.shift Roxr d f).flags.x ≡ d + word * digit f.x
  pub clr : (d : ℕ) (f : Flags) → (m.one Clr d f).result ≡ 0
  pub clr_x : (d : ℕ) (f : Flags) → (m.one Clr d f).flags.x ≡ f.x
  pub not : (d : ℕ) (f : Flags) → d < word → (m.one Not d f).result ≡ word - 1 - d
  pub not_x : (d : ℕ) (f : Flags) → (m.one Not d f).flags.x ≡ f.x

-- a step was performed as o: its outcome, what it left, and its clocks. Three equations, so that a new field of `Performed` moves none of them
pub record Gives (o : Performed) (x : Outcome) (t : State) (c : ℕ) : Type 0 where
  pub outcome : o.outcome ≡ x
  pub state : o.state ≡ t
  pub clocks : o.clocks ≡ c

pub record Steps (f : State → Step → Performed) : Type 0 where
  pub alu : Alu
  pub figure : Step → ℕ
  pub does : (k : Step) (s : State) → Legal k → Gives (f s k) Done (applied alu k s) (figure k)
  pub promises : Promises alu

-- ---- the operations of the crate alu keep them

abbrev leaves : Answer → Left
leaves a = record { result = a.result; flags = a.flags }

abbrev long : Alu
long = record {
  two = λ op s d f. leaves (two_of op Long s d f);
  one = λ op d f. leaves (one_of op Long d f);
  shift = λ op d f. leaves (shift_of op Long 1 d f);
}

linked : (f : Flags) (r : ℕ) (v c : Bool) → r < word → Linked 32 f v (record { result = r; flags = keep_z f (arith_flags 32 r v c) })
linked f r v c h = record { below = h; sign = refl; zero = ap (λ (k : ℕ). f.z && eqb k 0) (mod-eq_of_lt h); overflow = refl; carry = refl }

addx_linked : (s d : ℕ) (f : Flags) → Linked 32 f (add_v (top 32 s) (top 32 d) (top 32 (long.two Addx s d f).result)) (long.two Addx s d f)
unfolding add_flags
addx_linked s d f = linked f (sum 32 s d f.x) _ _ (sum_lt 32 s d f.x)

subx_linked : (s d : ℕ) (f : Flags) → Linked 32 f (sub_v (top 32 s) (top 32 d) (top 32 (long.two Subx s d f).result)) (long.two Subx s d f)
unfolding sub_flags
subx_linked s d f = linked f (difference 32 s d f.x) _ _ (difference_lt 32 s d f.x)

negx_linked : (d : ℕ) (f : Flags) → Linked 32 f (neg_v (top 32 d) (top 32 (long.one Negx d f).result)) (long.one Negx d f)
unfolding neg_flags
negx_linked d f = linked f (difference 32 d 0 f.x) _ _ (difference_lt 32 d 0 f.x)

add_x : (s d r : ℕ) → (add_flags 32 s d r).x ≡ (add_flags 32 s d r).c
unfolding add_flags
add_x s d r = refl

sub_x : (s d r : ℕ) → (sub_flags 32 s d r).x ≡ (sub_flags 32 s d r).c
unfolding sub_flags
sub_x s d r = refl

addx_balance : (s d : ℕ) (f : Flags) → s < word → d < word → d + s + digit f.x ≡ (long.two Addx s d f).result + word * digit (long.two Addx s d f).flags.x
addx_balance s d f hs hd =
    let e = add_exact 32 (omega arith) s d f.x in
    let ls : low 32 s ≡ s = mod-eq_of_lt hs in
    let ld : low 32 d ≡ d = mod-eq_of_lt hd in rw (add_x s d (sum 32 s d f.x)) (omega (arith, e, ls, ld))

subx_balance : (s d : ℕ) (f : Flags) → s < word → d < word → (long.two Subx s d f).result + s + digit f.x ≡ d + word * digit (long.two Subx s d f).flags.x
subx_balance s d f hs hd =
    let e = sub_exact 32 (omega arith) s d f.x in
    let ls : low 32 s ≡ s = mod-eq_of_lt hs in
    let ld : low 32 d ≡ d = mod-eq_of_lt hd in rw (sub_x s d (difference 32 s d f.x)) (omega (arith, e, ls, ld))

negx_balance : (d : ℕ) (f : Flags) → d < word → (long.one Negx d f).result + d + digit f.x ≡ word * digit (long.one Negx d f).flags.x
negx_balance d f hd =
    let r = difference 32 d 0 f.x in
    let e = sub_exact 32 (omega arith) d 0 f.x in
    let ld : low 32 d ≡ d = mod-eq_of_lt hd in rw (← neg_flags_lem 32 d r, sub_x d 0 r) (omega (arith, e, ld))

-- ---- shifts by 1

-- what a shift leaves that moves one position: the operand, and the bit that went out as X and C
abbrev moved_one : Held → Flags → Left
moved_one h f = record { result = h.value; flags = result_flags 32 h.value h.out false h.out }

lsl_one : (d : ℕ) (f : Flags) → long.shift Lsl d f ≡ moved_one (left 32 false (low 32 d)) f
unfolding shift_of turns turn
lsl_one d f = refl

roxl_one : (d : ℕ) (f : Flags) → long.shift Roxl d f ≡ moved_one (left 32 f.x (low 32 d)) f
unfolding shift_of turns turn
roxl_one d f = refl

lsr_one : (d : ℕ) (f : Flags) → long.shift Lsr d f ≡ moved_one (right 32 false (low 32 d)) f
unfolding shift_of turns turn
lsr_one d f = refl

asr_one : (d : ℕ) (f : Flags) → long.shift Asr d f ≡ moved_one (right 32 (top 32 (low 32 d)) (low 32 d)) f
unfolding shift_of turns turn
asr_one d f = refl

roxr_one : (d : ℕ) (f : Flags) → long.shift Roxr d f ≡ moved_one (right 32 f.x (low 32 d)) f
unfolding shift_of turns turn
roxr_one d f = refl

roxl_below : (d : ℕ) (f : Flags) → (long.shift Roxl d f).result < word
roxl_below d f = subst⁻¹ (λ (r : Left). r.result < word) (roxl_one d f) (low_lt 32 (2 * low 32 d + digit f.x))

roxl_balance : (d : ℕ) (f : Flags) → d < word → 2 * d + digit f.x ≡ (long.shift Roxl d f).result + word * digit (long.shift Roxl d f).flags.x
roxl_balance d f h =
    let e = left_exact 32 f.x (low 32 d) (omega arith) (low_lt 32 d) in
    let ld : low 32 d ≡ d = mod-eq_of_lt h in
    subst⁻¹ (λ (r : Left). 2 * d + digit f.x ≡ r.result + word * digit r.flags.x) (roxl_one d f) (omega (arith, e, ld))

roxr_below : (d : ℕ) (f : Flags) → (long.shift Roxr d f).result < word
roxr_below d f =
    let l : low 32 d < word = low_lt 32 d in subst⁻¹ (λ (r : Left). r.result < word) (roxr_one d f) (omega (arith, l, digit_le f.x))

roxr_balance : (d : ℕ) (f : Flags) → d < word → 2 * (long.shift Roxr d f).result + digit (long.shift Roxr d f).flags.x ≡ d + word * digit f.x
roxr_balance d f h =
    let e = right_exact 32 f.x (low 32 d) (omega arith) in
    let ld : low 32 d ≡ d = mod-eq_of_lt h in
    subst⁻¹ (λ (r : Left). 2 * r.result + digit r.flags.x ≡ d + word * digit f.x) (roxr_one d f) (omega (arith, e, ld))

clr_keeps : (d : ℕ) (f : Flags) → (long.one Clr d f).flags.x ≡ f.x
unfolding logic_flags
clr_keeps d f = refl

not_keeps : (d : ℕ) (f : Flags) → (long.one Not d f).flags.x ≡ f.x
unfolding logic_flags
not_keeps d f = refl

kept : Promises long
kept = record {
  add = λ s d f. refl;
  sub = λ s d f. refl;
  neg = λ d f. refl;
  lsl = λ d f. lsl_one d f ∙ sym (roxl_one d (fresh f));
  lsr = λ d f. lsr_one d f ∙ sym (roxr_one d (with_x false f));
  asr = λ d f. asr_one d f ∙ (ap (λ (b : Bool). moved_one (right 32 b (low 32 d)) f) (top_low 32 d (omega arith)) ∙ sym (roxr_one d (with_x (top 32 d) f)));
  addx = addx_linked;
  subx = subx_linked;
  negx = negx_linked;
  addx_sum = addx_balance;
  subx_sum = subx_balance;
  negx_sum = negx_balance;
  roxl = roxl_below;
  roxl_sum = roxl_balance;
  roxr = roxr_below;
  roxr_sum = roxr_balance;
  clr = λ d f. refl;
  clr_x = clr_keeps;
  not = λ d f h. ap (λ (k : ℕ). word - 1 - k) (mod-eq_of_lt h);
  not_x = not_keeps;
}

-- ---- a legal step is done

abbrev pub figure_of : Form → ℕ
figure_of (Two op p q) = 8
figure_of (Address op p q) = 0
figure_of (Quick op k p) = 0
figure_of (One op q) = 6
figure_of (Shift op k q) = 10
figure_of (Bit op c q) = 0
figure_of (Chk p q) = 0

two_figure : (op : TwoOp) → UsedTwo op → (s d : ℕ) (f : Flags) → figure_of_two op Long (two_of op Long s d f).clocks ≡ 8
two_figure Add u s d f = refl
two_figure Sub u s d f = refl
two_figure Cmp u s d f = absurd u
two_figure Addx u s d f = refl
two_figure Subx u s d f = refl

one_figure : (op : OneOp) → UsedOne op → (d : ℕ) (f : Flags) → (one_of op Long d f).clocks ≡ 6
one_figure Clr u d f = refl
one_figure Neg u d f = refl
one_figure Negx u d f = refl
one_figure Not u d f = refl
one_figure Ext u d f = absurd u

shift_figure : (op : ShiftOp) → (d : ℕ) (f : Flags) → (shift_of op Long 1 d f).clocks ≡ 10
unfolding shift_of
shift_figure Asl d f = refl
shift_figure Asr d f = refl
shift_figure Lsl d f = refl
shift_figure Lsr d f = refl
shift_figure Rol d f = refl
shift_figure Ror d f = refl
shift_figure Roxl d f = refl
shift_figure Roxr d f = refl

one_size_lem : (op : OneOp) → UsedOne op → one_size op Long ≡ true
one_size_lem Clr u = refl
one_size_lem Neg u = refl
one_size_lem Negx u = refl
one_size_lem Not u = refl
one_size_lem Ext u = absurd u

done : (form : Form) (s : State) → LegalForm form → Gives (judged (ruling_of Long form) s (act_of s Long form)) Done (applied_form long form s) (figure_of form)
done (Two op p q) s h =
    rw (lt-ltb p.0 8 h.1, lt-ltb q.0 8 h.2) (record { outcome = refl; state = refl; clocks = two_figure op h.0 (register s p.0) (register s q.0) s.flags })
done (Address op p q) s h = absurd h
done (Quick op k p) s h = absurd h
done (One op q) s h =
    rw (one_size_lem op h.0, lt-ltb q.0 8 h.1) (record { outcome = refl; state = refl; clocks = one_figure op h.0 (register s q.0) s.flags })
done (Shift op (Count.Small k) q) s h =
    rw (h.1, lt-ltb q.0 8 h.2) (record { outcome = refl; state = refl; clocks = shift_figure op (register s q.0) s.flags })
done (Shift op (Count.Data r) q) s h = absurd h
done (Bit op c q) s h = absurd h
done (Chk p q) s h = absurd h

-- the step keeps them
pub performs : Steps perform_of
performs = record {
  alu = long;
  figure = λ k. figure_of k.form;
  does = λ k s h. subst⁻¹ (λ (size : Size). Gives (judged (ruling_of size k.form) s (act_of s size k.form)) Done (applied long k s) (figure_of k.form)) h.0 (done k.form s h.1);
  promises = kept;
}
