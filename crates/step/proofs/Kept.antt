-- A step has as many registers after it as before (`step_kept`), and so has a run, over any step function of which that holds (`run_kept`). Assumes nothing.
use Rattle.std.proofs.Common.{◌≡◌, ℕ, zero, suc, List, length, refl, ◌∙◌, length-set}
use Rattle.alu.specs.declared.types.Size.{Size}
use Rattle.alu.specs.declared.types.Answer.{Answer}
use Rattle.alu.specs.Shifts.{shift_of}
use Rattle.alu.specs.Bitops.{bitop_of}
use Rattle.step.specs.declared.registers.State.{State}
use Rattle.step.specs.declared.registers.D.{D}
use Rattle.step.specs.declared.registers.A.{A}
use Rattle.step.specs.declared.forms.Register.TheVariants as Register
use Rattle.step.specs.declared.forms.Form.{Form}
use Rattle.step.specs.declared.forms.Form.TheVariants.{Two, Address, Quick, One, Shift, Bit, Chk}
use Rattle.step.specs.declared.forms.Step.{Step}
use Rattle.step.specs.declared.steps.Outcome.{Outcome}
use Rattle.step.specs.declared.steps.Outcome.TheVariants.{Done, Trapped, Refused}
use Rattle.step.specs.declared.steps.Performed.{Performed}
use Rattle.step.specs.declared.runs.Ran.{Ran}
use Rattle.step.specs.Registers.{data_of, address_of, merged_of}
use Rattle.step.specs.Perform.{Ruling, Sound, Faulty, two_of, on_address_of, quick_of, quick_address_of, one_of, register_value, count_value, to_data, to_address, act_of, judged, ruling_of, perform_of}
use Rattle.step.specs.Run.{Spot, here, at_end, past_end, spot_of, followed, met, run_of}

-- as many registers of each kind
pub record AsMany (s t : State) : Type 0 where
  pub data_registers : length t.d ≡ length s.d
  pub address_registers : length t.a ≡ length s.a

same : (s : State) → AsMany s s
same s = record { data_registers = refl; address_registers = refl }

-- ---- a step

data_kept : (s : State) (size : Size) (t : D) (x : Answer) → AsMany s (to_data s size t x).state
data_kept s size t x = record { data_registers = length-set s.d t.0 (merged_of size (data_of s t) x.result); address_registers = refl }

address_kept : (s : State) (t : A) (x : Answer) → AsMany s (to_address s t x).state
address_kept s t x = record { data_registers = refl; address_registers = length-set s.a t.0 x.result }

act_kept : (s : State) (size : Size) (form : Form) → AsMany s (act_of s size form).state
act_kept s size (Two op r t) = data_kept s size t (two_of op size (data_of s r) (data_of s t) s.flags)
act_kept s size (Address op r t) = address_kept s t (on_address_of op size (register_value s r) (address_of s t) s.flags)
act_kept s size (Quick op k (Register.Data t)) = data_kept s size t (quick_of op size k (data_of s t) s.flags)
act_kept s size (Quick op k (Register.Address t)) = address_kept s t (quick_address_of op size k (address_of s t) s.flags)
act_kept s size (One op t) = data_kept s size t (one_of op size (data_of s t) s.flags)
act_kept s size (Shift op c t) = data_kept s size t (shift_of op size (count_value s 64 c) (data_of s t) s.flags)
act_kept s size (Bit op c t) = data_kept s size t (bitop_of op size (count_value s 32 c) (data_of s t) s.flags)
act_kept s size (Chk r t) = record { data_registers = refl; address_registers = refl }

judged_kept : (x : Ruling) (s : State) (done : Performed) → AsMany s done.state → AsMany s (judged x s done).state
judged_kept Sound s done h = h
judged_kept (Faulty fault) s done h = same s

pub step_kept : (s : State) (k : Step) → AsMany s (perform_of s k).state
step_kept s k = judged_kept (ruling_of k.size k.form) s (act_of s k.size k.form) (act_kept s k.size k.form)

-- ---- a run

module _ (f : State → Step → Performed) (l : List Step) (kept : (s : State) (k : Step) → AsMany s (f s k).state) where
  then_kept : (s t u : State) → AsMany s t → AsMany t u → AsMany s u
  then_kept s t u h k = record {
    data_registers = k.data_registers ∙ h.data_registers;
    address_registers = k.address_registers ∙ h.address_registers;
  }

  followed_kept : (s : State) (o : Outcome) (w : Performed) (p line : ℕ) (on : State → ℕ → Ran) → AsMany s w.state → ((t : State) (q : ℕ) → AsMany t (on t q).state)
      → AsMany s (followed o w p line on).state
  followed_kept s Done w p line on h more = then_kept s w.state _ h (more w.state (suc p))
  followed_kept s (Trapped x) w p line on h more = h
  followed_kept s (Refused x) w p line on h more = h

  met_kept : (o : Spot) (s : State) (p : ℕ) (on : Step → Ran) → ((k : Step) → AsMany s (on k).state) → AsMany s (met o s p on).state
  met_kept past_end s p on h = same s
  met_kept at_end s p on h = same s
  met_kept (here k) s p on h = h k

  pub run_kept : (s : State) (p b : ℕ) → AsMany s (run_of f l s p b).state
  unfolding run_of
  run_kept s p zero = met_kept (spot_of l p) s p _ (λ k. same s)
  run_kept s p (suc b) = met_kept (spot_of l p) s p _ (λ k. followed_kept s (f s k).outcome (f s k) p k.line _ (kept s k) (λ t q. run_kept t q b))
