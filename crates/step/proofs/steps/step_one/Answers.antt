-- `steps::step_one` meets its contract: EXT's answer is written whole, and that is a write at its size. Assumes nothing.
use Rattle.std.proofs.Common.{◌≡◌, true, refl, lt-ltb, rules}
use Rattle.step.specs.Perform.{not_byte}
use Rattle.step.specs.Lent.{held}
use Rattle.step.proofs.Stepping.{sound, ext_step}
use Rattle.step.proofs.steps.step_one.Goals as goal

pub returns-then-ne : goal.returns-then-ne
returns-then-ne c a =
    let s = held c.args.d.now a c.args.flags in
    let has : not_byte c.args.size ≡ true = search rules in
    rw c.in-Ext.is
    (ext_step s (sound (lt-ltb _ _ c.if-t-lt8.true) has refl) c.args.size c.args.t has c.to_whole.ensures (rw c.read-dst.ensures at c.exec_ext.ensures))
