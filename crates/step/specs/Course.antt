-- Terms of private functions' contracts: a step on registers that are lent, and the loop of a run. No contract of a public function names anything of
-- this page, and a reader can leave it out. Assumes nothing.
use Rattle.std.specs.Prelude.{◌≡◌, ℕ, ◌+◌, ◌-◌, ◌*◌, ◌^◌, ◌<◌, ◌≤◌, min, Bool, true, false, cond, ◌&&◌, Option, Some, None, List, nat_le, nat_lt}
use Rattle.alu.specs.declared.types.Flags.{Flags}
use Rattle.alu.specs.declared.types.Answer.{Answer}
use Rattle.step.specs.declared.registers.State.{State}
use Rattle.alu.specs.declared.types.Size.TheVariants.{Byte}
use Rattle.step.specs.declared.forms.Form.TheVariants.{Chk}
use Rattle.step.specs.declared.forms.Step.{Step}
use Rattle.step.specs.declared.forms.Count.{Count}
use Rattle.step.specs.declared.steps.Acted.{Acted}
use Rattle.step.specs.declared.steps.Came.{Came}
use Rattle.step.specs.declared.steps.Came.TheVariants as How
use Rattle.step.specs.declared.steps.Fault.{Fault}
use Rattle.step.specs.declared.steps.Fault.TheVariants.{BadSmall, NoSuchSize, NoSuchRegister, StartPastEnd}
use Rattle.step.specs.declared.steps.Trap.TheVariants.{Over, Short, Below}
use Rattle.step.specs.declared.steps.Outcome.{Outcome}
use Rattle.step.specs.declared.steps.Outcome.TheVariants.{Done, Trapped, Refused}
use Rattle.step.specs.declared.steps.Performed.{Performed}
use Rattle.step.specs.declared.runs.End.{End}
use Rattle.step.specs.declared.runs.Left.{Left}
use Rattle.step.specs.declared.runs.Halted.{Halted}
use Rattle.step.specs.declared.runs.Course.{Course}
use Rattle.step.specs.Perform.{count_there, count_within, count_value}
use Rattle.step.specs.Lent.{held}

-- ---- a step on registers that are lent

-- how a step came out, in one byte: the outcome that it stands for
abbrev pub came_out : Came → Outcome
came_out How.Done = Done
came_out How.Over = Trapped Over
came_out How.Short = Trapped Short
came_out How.Below = Trapped Below
came_out How.BadSmall = Refused BadSmall
came_out How.NoSuchSize = Refused NoSuchSize
came_out How.NoSuchRegister = Refused NoSuchRegister
came_out How.StartPastEnd = Refused StartPastEnd

abbrev pub is_done : Outcome → Bool
is_done Done = true
is_done (Trapped trap) = false
is_done (Refused fault) = false

-- the registers that a step leaves, and what it says beside them
abbrev pub leaving : (d a : List ℕ) → Acted → Performed
leaving d a r = record { outcome = came_out r.came; state = held d a r.flags; clocks = r.clocks }

abbrev pub said_of : Came → Answer → Acted
said_of came answer = record { came = came; flags = answer.flags; clocks = answer.clocks }

abbrev pub refused_of : Came → Flags → Acted
refused_of came f = record { came = came; flags = f; clocks = 0 }

-- a shift's count or a bit's number, if it may be: a register that is there or a small number in range
abbrev pub counted_of : (least most modulus : ℕ) → State → Count → Option ℕ
counted_of least most modulus s c = cond (count_there c && count_within least most c) (Some (count_value s modulus c)) None

-- why one that doesn't fit is refused
abbrev pub count_fault : Count → Came
count_fault (Count.Small k) = How.BadSmall
count_fault (Count.Data r) = How.NoSuchRegister

-- ---- the loop of a run

abbrev pub course_of : Bool → Came → (next clocks : ℕ) → Flags → Course
course_of going came next clocks f = record { going = going; came = came; next = next; clocks = clocks; flags = f }

-- the place that a run doesn't go beyond: no more steps than stand from its start to the end, and no more than the budget
abbrev pub stop_of : (len start budget : ℕ) → ℕ
stop_of len start budget = start + min (len - start) budget

abbrev pub begin_of : (len start stop : ℕ) → Flags → Course
begin_of len start stop f = cond (nat_le start len) (course_of (nat_lt start stop) How.Done start 0 f) (course_of false How.StartPastEnd start 0 f)

-- the step at the next place came out so, with this figure and these flags
abbrev pub turned : (stop : ℕ) → Course → Came → (clocks : ℕ) → Flags → Course
turned stop on came clocks f = course_of (is_done (came_out came) && nat_lt (on.next + 1) stop) came (on.next + 1) (on.clocks + clocks) f

-- the step was performed as p: the registers d and a, and where the run stands then
pub record Advanced (stop : ℕ) (on : Course) (p : Performed) (d a : List ℕ) (r : Course) : Type 0 where
  pub data_registers : d ≡ p.state.d
  pub address_registers : a ≡ p.state.a
  pub outcome : came_out r.came ≡ p.outcome
  pub course : r ≡ turned stop on r.came p.clocks p.state.flags

-- what stands at a place that a listing has not
abbrev pub nowhere : Step
nowhere = record { size = Byte; form = Chk (record { 0 = 0 }) (record { 0 = 0 }); line = 0 }

-- how a run ends that takes no step more at a place of a listing of `len` steps, or at its end
abbrev pub end_at : (len next : ℕ) → End
end_at len next = cond (nat_lt next len) End.Budget End.Finished

-- where a refused step stood, if `next` is the place behind it; a run that starts past the end has taken none
abbrev pub stood_at : Fault → (next : ℕ) → ℕ
stood_at BadSmall next = next - 1
stood_at NoSuchSize next = next - 1
stood_at NoSuchRegister next = next - 1
stood_at StartPastEnd next = next

-- how a run ends and where it would go on, if `next` is the place behind the last step, which came out so and is of this text line
abbrev pub halted_of : Outcome → (len next line : ℕ) → Halted
halted_of Done len next line = record { end = end_at len next; next = next }
halted_of (Trapped trap) len next line = record { end = End.Trapped trap (next - 1) line; next = next }
halted_of (Refused fault) len next line = record { end = End.Refused fault (stood_at fault next) line; next = stood_at fault next }

-- the outcome of a run of one step
abbrev pub outcome_from : End → Outcome
outcome_from End.Finished = Done
outcome_from End.Budget = Done
outcome_from (End.Trapped trap place line) = Trapped trap
outcome_from (End.Refused fault place line) = Refused fault

-- what a run that has ended says, if its last step is of this text line
abbrev pub left_of : (len start : ℕ) → Course → (line : ℕ) → Left
left_of len start on line =
    let halt = halted_of (came_out on.came) len on.next line in
    record { end = halt.end; next = halt.next; steps = halt.next - start; clocks = on.clocks; flags = on.flags }

-- a step can be done: one stands before the run's last place, and the sum of the figures has room for those that do
pub record Ready (stop : ℕ) (on : Course) : Type 0 where
  pub inside : on.next < stop
  pub room : on.clocks + (stop - on.next) * 2 ^ 32 < 2 ^ 64

-- the steps that were taken can be counted in 32 bits
pub record Halts (len start : ℕ) (on : Course) (line : ℕ) : Type 0 where
  pub from : start ≤ (left_of len start on line).next
  pub few : (left_of len start on line).next < start + 2 ^ 32
