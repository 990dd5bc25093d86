-- `recipes::printer::operation_name` meets its contract: in each arm the table of operations has the name in the form's row. Assumes nothing.
use Rattle.std.proofs.Common.{◌≡◌, ℕ, List, refl}
use mathlib.Core.Path.{subst⁻¹}
use Rattle.step.specs.declared.forms.QuickOp.{QuickOp}
use Rattle.step.specs.declared.forms.QuickOp.TheVariants.{Addq, Subq}
use Rattle.step.specs.declared.forms.Register.{Register}
use Rattle.step.specs.declared.forms.Form.{Form}
use Rattle.step.specs.declared.forms.Form.TheVariants.{Two, Address, Quick, One, Shift, Bit}
use Rattle.recipes.specs.Printer.{operation_text}
use Rattle.recipes.proofs.printer.operation_name.Goals as goal

-- an arm tells the form and its operation
named : {O : Type 0} (make : O → Form) {name : List ℕ} {f : Form} {op : O} (o : O) → f ≡ make op → op ≡ o → name ≡ operation_text (make o) → name ≡ operation_text f
named make {name} o e h n = subst⁻¹ (λ (g : Form). name ≡ operation_text g) e (subst⁻¹ (λ p. name ≡ operation_text (make p)) h n)

-- ADDQ and SUBQ have a row for each kind of register
quick : (op : QuickOp) (k : ℕ) (t : Register) → (name : List ℕ) → name ≡ operation_text (Quick op k (Register.Data (record { 0 = 0 })))
    → name ≡ operation_text (Quick op k (Register.Address (record { 0 = 0 }))) → name ≡ operation_text (Quick op k t)
quick op k (Register.Data r) name e f = e
quick op k (Register.Address r) name e f = f

pub returns-in-Two-Add-default-default : goal.returns-in-Two-Add-default-default
returns-in-Two-Add-default-default c = named (λ p. Two p c.in-Two-Add-default-default.field-1 c.in-Two-Add-default-default.field-2) _ c.in-Two-Add-default-default.is (rw c.in-Two-Add-default-default.is at c.in-Two-Add-default-default.field-0-is) refl

pub returns-in-Two-Sub-default-default : goal.returns-in-Two-Sub-default-default
returns-in-Two-Sub-default-default c = named (λ p. Two p c.in-Two-Sub-default-default.field-1 c.in-Two-Sub-default-default.field-2) _ c.in-Two-Sub-default-default.is (rw c.in-Two-Sub-default-default.is at c.in-Two-Sub-default-default.field-0-is) refl

pub returns-in-Two-Cmp-default-default : goal.returns-in-Two-Cmp-default-default
returns-in-Two-Cmp-default-default c = named (λ p. Two p c.in-Two-Cmp-default-default.field-1 c.in-Two-Cmp-default-default.field-2) _ c.in-Two-Cmp-default-default.is (rw c.in-Two-Cmp-default-default.is at c.in-Two-Cmp-default-default.field-0-is) refl

pub returns-in-Two-Addx-default-default : goal.returns-in-Two-Addx-default-default
returns-in-Two-Addx-default-default c = named (λ p. Two p c.in-Two-Addx-default-default.field-1 c.in-Two-Addx-default-default.field-2) _ c.in-Two-Addx-default-default.is (rw c.in-Two-Addx-default-default.is at c.in-Two-Addx-default-default.field-0-is) refl

pub returns-in-Two-Subx-default-default : goal.returns-in-Two-Subx-default-default
returns-in-Two-Subx-default-default c = named (λ p. Two p c.in-Two-Subx-default-default.field-1 c.in-Two-Subx-default-default.field-2) _ c.in-Two-Subx-default-default.is (rw c.in-Two-Subx-default-default.is at c.in-Two-Subx-default-default.field-0-is) refl

pub returns-in-Address-Adda-default-default : goal.returns-in-Address-Adda-default-default
returns-in-Address-Adda-default-default c = named (λ p. Address p c.in-Address-Adda-default-default.field-1 c.in-Address-Adda-default-default.field-2) _ c.in-Address-Adda-default-default.is (rw c.in-Address-Adda-default-default.is at c.in-Address-Adda-default-default.field-0-is) refl

pub returns-in-Address-Suba-default-default : goal.returns-in-Address-Suba-default-default
returns-in-Address-Suba-default-default c = named (λ p. Address p c.in-Address-Suba-default-default.field-1 c.in-Address-Suba-default-default.field-2) _ c.in-Address-Suba-default-default.is (rw c.in-Address-Suba-default-default.is at c.in-Address-Suba-default-default.field-0-is) refl

pub returns-in-Address-Cmpa-default-default : goal.returns-in-Address-Cmpa-default-default
returns-in-Address-Cmpa-default-default c = named (λ p. Address p c.in-Address-Cmpa-default-default.field-1 c.in-Address-Cmpa-default-default.field-2) _ c.in-Address-Cmpa-default-default.is (rw c.in-Address-Cmpa-default-default.is at c.in-Address-Cmpa-default-default.field-0-is) refl

pub returns-in-Quick-Addq-default-default : goal.returns-in-Quick-Addq-default-default
returns-in-Quick-Addq-default-default c = named (λ p. Quick p c.in-Quick-Addq-default-default.field-1 c.in-Quick-Addq-default-default.field-2) Addq c.in-Quick-Addq-default-default.is (rw c.in-Quick-Addq-default-default.is at c.in-Quick-Addq-default-default.field-0-is) (quick Addq c.in-Quick-Addq-default-default.field-1 c.in-Quick-Addq-default-default.field-2 _ refl refl)

pub returns-in-Quick-Subq-default-default : goal.returns-in-Quick-Subq-default-default
returns-in-Quick-Subq-default-default c = named (λ p. Quick p c.in-Quick-Subq-default-default.field-1 c.in-Quick-Subq-default-default.field-2) Subq c.in-Quick-Subq-default-default.is (rw c.in-Quick-Subq-default-default.is at c.in-Quick-Subq-default-default.field-0-is) (quick Subq c.in-Quick-Subq-default-default.field-1 c.in-Quick-Subq-default-default.field-2 _ refl refl)

pub returns-in-One-Clr-default : goal.returns-in-One-Clr-default
returns-in-One-Clr-default c = named (λ p. One p c.in-One-Clr-default.field-1) _ c.in-One-Clr-default.is (rw c.in-One-Clr-default.is at c.in-One-Clr-default.field-0-is) refl

pub returns-in-One-Neg-default : goal.returns-in-One-Neg-default
returns-in-One-Neg-default c = named (λ p. One p c.in-One-Neg-default.field-1) _ c.in-One-Neg-default.is (rw c.in-One-Neg-default.is at c.in-One-Neg-default.field-0-is) refl

pub returns-in-One-Negx-default : goal.returns-in-One-Negx-default
returns-in-One-Negx-default c = named (λ p. One p c.in-One-Negx-default.field-1) _ c.in-One-Negx-default.is (rw c.in-One-Negx-default.is at c.in-One-Negx-default.field-0-is) refl

pub returns-in-One-Not-default : goal.returns-in-One-Not-default
returns-in-One-Not-default c = named (λ p. One p c.in-One-Not-default.field-1) _ c.in-One-Not-default.is (rw c.in-One-Not-default.is at c.in-One-Not-default.field-0-is) refl

pub returns-in-One-Ext-default : goal.returns-in-One-Ext-default
returns-in-One-Ext-default c = named (λ p. One p c.in-One-Ext-default.field-1) _ c.in-One-Ext-default.is (rw c.in-One-Ext-default.is at c.in-One-Ext-default.field-0-is) refl

pub returns-in-Shift-Asl-default-default : goal.returns-in-Shift-Asl-default-default
returns-in-Shift-Asl-default-default c = named (λ p. Shift p c.in-Shift-Asl-default-default.field-1 c.in-Shift-Asl-default-default.field-2) _ c.in-Shift-Asl-default-default.is (rw c.in-Shift-Asl-default-default.is at c.in-Shift-Asl-default-default.field-0-is) refl

pub returns-in-Shift-Asr-default-default : goal.returns-in-Shift-Asr-default-default
returns-in-Shift-Asr-default-default c = named (λ p. Shift p c.in-Shift-Asr-default-default.field-1 c.in-Shift-Asr-default-default.field-2) _ c.in-Shift-Asr-default-default.is (rw c.in-Shift-Asr-default-default.is at c.in-Shift-Asr-default-default.field-0-is) refl

pub returns-in-Shift-Lsl-default-default : goal.returns-in-Shift-Lsl-default-default
returns-in-Shift-Lsl-default-default c = named (λ p. Shift p c.in-Shift-Lsl-default-default.field-1 c.in-Shift-Lsl-default-default.field-2) _ c.in-Shift-Lsl-default-default.is (rw c.in-Shift-Lsl-default-default.is at c.in-Shift-Lsl-default-default.field-0-is) refl

pub returns-in-Shift-Lsr-default-default : goal.returns-in-Shift-Lsr-default-default
returns-in-Shift-Lsr-default-default c = named (λ p. Shift p c.in-Shift-Lsr-default-default.field-1 c.in-Shift-Lsr-default-default.field-2) _ c.in-Shift-Lsr-default-default.is (rw c.in-Shift-Lsr-default-default.is at c.in-Shift-Lsr-default-default.field-0-is) refl

pub returns-in-Shift-Rol-default-default : goal.returns-in-Shift-Rol-default-default
returns-in-Shift-Rol-default-default c = named (λ p. Shift p c.in-Shift-Rol-default-default.field-1 c.in-Shift-Rol-default-default.field-2) _ c.in-Shift-Rol-default-default.is (rw c.in-Shift-Rol-default-default.is at c.in-Shift-Rol-default-default.field-0-is) refl

pub returns-in-Shift-Ror-default-default : goal.returns-in-Shift-Ror-default-default
returns-in-Shift-Ror-default-default c = named (λ p. Shift p c.in-Shift-Ror-default-default.field-1 c.in-Shift-Ror-default-default.field-2) _ c.in-Shift-Ror-default-default.is (rw c.in-Shift-Ror-default-default.is at c.in-Shift-Ror-default-default.field-0-is) refl

pub returns-in-Shift-Roxl-default-default : goal.returns-in-Shift-Roxl-default-default
returns-in-Shift-Roxl-default-default c = named (λ p. Shift p c.in-Shift-Roxl-default-default.field-1 c.in-Shift-Roxl-default-default.field-2) _ c.in-Shift-Roxl-default-default.is (rw c.in-Shift-Roxl-default-default.is at c.in-Shift-Roxl-default-default.field-0-is) refl

pub returns-in-Shift-Roxr-default-default : goal.returns-in-Shift-Roxr-default-default
returns-in-Shift-Roxr-default-default c = named (λ p. Shift p c.in-Shift-Roxr-default-default.field-1 c.in-Shift-Roxr-default-default.field-2) _ c.in-Shift-Roxr-default-default.is (rw c.in-Shift-Roxr-default-default.is at c.in-Shift-Roxr-default-default.field-0-is) refl

pub returns-in-Bit-Btst-default-default : goal.returns-in-Bit-Btst-default-default
returns-in-Bit-Btst-default-default c = named (λ p. Bit p c.in-Bit-Btst-default-default.field-1 c.in-Bit-Btst-default-default.field-2) _ c.in-Bit-Btst-default-default.is (rw c.in-Bit-Btst-default-default.is at c.in-Bit-Btst-default-default.field-0-is) refl

pub returns-in-Bit-Bset-default-default : goal.returns-in-Bit-Bset-default-default
returns-in-Bit-Bset-default-default c = named (λ p. Bit p c.in-Bit-Bset-default-default.field-1 c.in-Bit-Bset-default-default.field-2) _ c.in-Bit-Bset-default-default.is (rw c.in-Bit-Bset-default-default.is at c.in-Bit-Bset-default-default.field-0-is) refl

pub returns-in-Bit-Bclr-default-default : goal.returns-in-Bit-Bclr-default-default
returns-in-Bit-Bclr-default-default c = named (λ p. Bit p c.in-Bit-Bclr-default-default.field-1 c.in-Bit-Bclr-default-default.field-2) _ c.in-Bit-Bclr-default-default.is (rw c.in-Bit-Bclr-default-default.is at c.in-Bit-Bclr-default-default.field-0-is) refl

pub returns-in-Bit-Bchg-default-default : goal.returns-in-Bit-Bchg-default-default
returns-in-Bit-Bchg-default-default c = named (λ p. Bit p c.in-Bit-Bchg-default-default.field-1 c.in-Bit-Bchg-default-default.field-2) _ c.in-Bit-Bchg-default-default.is (rw c.in-Bit-Bchg-default-default.is at c.in-Bit-Bchg-default-default.field-0-is) refl

pub returns-in-Chk : goal.returns-in-Chk
returns-in-Chk c = rw c.in-Chk.is
