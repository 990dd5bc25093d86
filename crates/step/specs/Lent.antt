-- A register set or a row that is lent: what stands there after a call. Assumes nothing.
use Rattle.std.specs.Prelude.{ℕ, List, ◌++◌, length, drop}
use Rattle.alu.specs.declared.types.Flags.{Flags}
use Rattle.step.specs.declared.registers.State.{State}
use Rattle.step.specs.declared.steps.Performed.{Performed}
use Rattle.step.specs.declared.runs.Ran.{Ran}
use Rattle.step.specs.declared.runs.Left.{Left}
use Rattle.step.specs.declared.lent.Told.{Told}

-- what the step says, and the state that stands behind the reference after it, put together
abbrev pub performed : Told → State → Performed
performed r s = record { outcome = r.outcome; state = s; clocks = r.clocks }

-- the registers where they stand, and the flags
abbrev pub held : (d a : List ℕ) → Flags → State
held d a f = record { d = d; a = a; flags = f }

-- what a run says, and the registers that stand behind the references after it, put together
abbrev pub ran_in : Left → (d a : List ℕ) → Ran
ran_in r d a = record { end = r.end; state = held d a r.flags; next = r.next; steps = r.steps; clocks = r.clocks }

-- a row whose first slots are written: those behind them stay
abbrev pub over : {A : Type 0} → (new old : List A) → List A
over new old = new ++ drop (length new) old
