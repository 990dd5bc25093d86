-- The arms of a step: a test fails, the first of document 01's order 3, 2, 1, or an answer goes to a data register, to an address register, or to no
-- register (CHK). s is the state before, p what the step would have made; the equations are what the tests and the calls on the way say. A count that fits and one that
-- doesn't (`count_sound`, `count_faulty`); EXT written whole (`ext_step`); a run of one step is that step (`one_step`, `perform_step`). Assumes nothing.
use Rattle.std.proofs.Common.{◌≡◌, ℕ, ◌/◌, ◌%◌, ◌^◌, Bool, true, false, ◌&&◌, List, [], ◌∷◌, set, sym, refl, ap, ◌∙◌, ap₂, mod-eq_of_lt, arith}
use mathlib.Core.Bool.{and-true}
use Rattle.alu.specs.declared.types.Size.{Size}
use Rattle.alu.specs.declared.types.Size.TheVariants.{Byte, Word, Long}
use Rattle.alu.specs.declared.types.Flags.{Flags}
use Rattle.alu.specs.declared.types.Answer.{Answer}
use Rattle.alu.specs.declared.types.Checked.{Checked}
use Rattle.alu.specs.Bits.{join}
use Rattle.alu.specs.Answers.{refigured}
use Rattle.alu.specs.Arith.{ext_of}
use Rattle.alu.proofs.Masked.{results}
use Rattle.step.specs.declared.registers.State.{State}
use Rattle.step.specs.declared.registers.D.{D}
use Rattle.step.specs.declared.registers.A.{A}
use Rattle.step.specs.declared.forms.Count.{Count}
use Rattle.step.specs.declared.forms.Step.{Step}
use Rattle.step.specs.declared.steps.Came.{Came}
use Rattle.step.specs.declared.steps.Came.TheVariants as How
use Rattle.step.specs.declared.steps.Fault.{Fault}
use Rattle.step.specs.declared.steps.Outcome.{Outcome}
use Rattle.step.specs.declared.steps.Outcome.TheVariants.{Done, Trapped, Refused}
use Rattle.step.specs.declared.steps.Performed.{Performed}
use Rattle.step.specs.declared.steps.Acted.{Acted}
use Rattle.step.specs.declared.runs.End.TheVariants as End
use Rattle.step.specs.declared.runs.Left.{Left}
use Rattle.step.specs.declared.runs.Ran.{Ran}
use Rattle.step.specs.Registers.{data_of, merged_of}
use Rattle.step.specs.Perform.{Ruling, Sound, refusal_of, count_there, count_within, not_byte, to_data, to_address, outcome_of, checked_of, timed, judged, perform_of}
use Rattle.step.specs.Run.{ends, followed, run_of}
use Rattle.step.specs.Lent.{held, ran_in}
use Rattle.step.specs.Course.{came_out, leaving, said_of, refused_of, count_fault, outcome_from}
use Rattle.step.proofs.Laws.{no, run_end, run_step}
use Rattle.step.proofs.Sound.{refused_free}
use Rattle.step.proofs.Figures.{perform_fits}

-- ---- a test fails

module _ (s : State) (p : Performed) {there : Bool} (sized small : Bool) {r : Acted} where
  pub not_there : there ≡ false → r ≡ refused_of How.NoSuchRegister s.flags → leaving s.d s.a r ≡ judged (refusal_of there sized small) s p
  not_there e said = rw (e, said)

module _ (s : State) (p : Performed) {there sized : Bool} (small : Bool) {r : Acted} where
  pub not_sized : there ≡ true → sized ≡ false → r ≡ refused_of How.NoSuchSize s.flags → leaving s.d s.a r ≡ judged (refusal_of there sized small) s p
  not_sized e g said = rw (e, g, said)

module _ (s : State) (p : Performed) {there sized small : Bool} {r : Acted} where
  pub not_small : there ≡ true → sized ≡ true → small ≡ false → r ≡ refused_of How.BadSmall s.flags → leaving s.d s.a r ≡ judged (refusal_of there sized small) s p
  not_small e g h said = rw (e, g, h, said)

-- all are passed
pub sound : {there sized small : Bool} → there ≡ true → sized ≡ true → small ≡ true → refusal_of there sized small ≡ Sound
sound e g h = rw (e, g, h)

-- ---- a count

-- of a step whose destination is there: t says so

module _ (least most : ℕ) {t sized : Bool} (stands : t ≡ true) (has : sized ≡ true) where
  pub count_sound : (c : Count) → (count_there c && count_within least most c) ≡ true → refusal_of (count_there c && t) sized (count_within least most c) ≡ Sound
  count_sound (Count.Small k) e = sound stands has e
  count_sound (Count.Data r) e = sound (ap₂ ◌&&◌ (sym (and-true (count_there (Count.Data r))) ∙ e) stands) has refl

  pub count_faulty : (s : State) (p : Performed) (c : Count) {r : Acted} → (count_there c && count_within least most c) ≡ false → r ≡ refused_of (count_fault c) s.flags
      → leaving s.d s.a r ≡ judged (refusal_of (count_there c && t) sized (count_within least most c)) s p
  count_faulty s p (Count.Small k) e said = not_small s p stands has e said
  count_faulty s p (Count.Data r) e said =
      not_there s p _ _ (ap (λ (u : Bool). u && t) (sym (and-true (count_there (Count.Data r))) ∙ e)) said

-- ---- EXT answers the whole register: a write at its size leaves just that

ext_whole : (size : Size) (d : ℕ) (f : Flags) → not_byte size ≡ true → (ext_of size d f).result ≡ merged_of size d (ext_of size d f).result
ext_whole Byte d f e = no e
ext_whole Word d f e = ap (λ (x : ℕ). join 16 x (d / 2 ^ 16)) (sym (results.ext_word d f).0)
ext_whole Long d f e = refl

-- ---- the step is done

module _ (s : State) {w : Ruling} (is : w ≡ Sound) where
  done : (p : Performed) → p ≡ judged w s p
  done p = rw is

  -- m goes to a data register
  written : (size : Size) (t : D) {answer known : Answer} {r : Acted} {d : List ℕ} {m : ℕ} → (d ≡ set s.d t.0 m) × (r ≡ said_of How.Done answer)
      → answer ≡ known → m ≡ merged_of size (data_of s t) known.result → leaving d s.a r ≡ judged w s (to_data s size t known)
  written size t {known = known} went answers merged =
      ap₂ (λ (d : List ℕ) (r : Acted). leaving d s.a r) (went.0 ∙ ap (set s.d t.0) merged) (went.1 ∙ ap (said_of How.Done) answers)
      ∙ done (to_data s size t known)

  pub data_step : (size : Size) (t : D) {answer known : Answer} {r : Acted} {d : List ℕ} {old : ℕ}
      → (d ≡ set s.d t.0 (merged_of size old answer.result)) × (r ≡ said_of How.Done answer) → old ≡ data_of s t → answer ≡ known
      → leaving d s.a r ≡ judged w s (to_data s size t known)
  data_step size t went old answers = written size t went answers (ap₂ (merged_of size) old (ap (λ (x : Answer). x.result) answers))

  -- the same where the step's figure is not the operation's
  pub timed_step : (size : Size) (t : D) (figure : ℕ → ℕ) {answer known : Answer} {r : Acted} {d : List ℕ} {old : ℕ}
      → (d ≡ set s.d t.0 (merged_of size old answer.result)) × (r ≡ said_of How.Done (refigured answer (figure answer.clocks))) → old ≡ data_of s t → answer ≡ known
      → leaving d s.a r ≡ judged w s (timed figure (to_data s size t known))
  timed_step size t figure {answer = answer} {known = known} went old answers =
      data_step size t {answer = refigured answer (figure answer.clocks)} {known = refigured known (figure known.clocks)} went old
      (ap (λ (x : Answer). refigured x (figure x.clocks)) answers)

  pub address_step : (t : A) {answer known : Answer} {r : Acted} {a : List ℕ} → (a ≡ set s.a t.0 answer.result) × (r ≡ said_of How.Done answer)
      → answer ≡ known → leaving s.d a r ≡ judged w s (to_address s t known)
  address_step t {known = known} went answers =
      ap₂ (λ (a : List ℕ) (r : Acted). leaving s.d a r) went.0 went.1 ∙ (ap (to_address s t) answers ∙ done (to_address s t known))

  pub check_step : {chk known : Checked} {came : Came} {r : Acted} → r ≡ said_of came chk.answer → came_out came ≡ outcome_of chk.check → chk ≡ known
      → leaving s.d s.a r ≡ judged w s (checked_of s known)
  check_step {chk = chk} {known = known} said trapped answers =
      ap (leaving s.d s.a) said
      ∙ (ap (λ (o : Outcome). record { outcome = o; state = held s.d s.a chk.answer.flags; clocks = chk.answer.clocks }) trapped
      ∙ (ap (checked_of s) answers ∙ done (checked_of s known)))

  pub ext_step : (size : Size) (t : D) {answer : Answer} {r : Acted} {d : List ℕ} → not_byte size ≡ true
      → (d ≡ set s.d t.0 answer.result) × (r ≡ said_of How.Done answer) → answer ≡ ext_of size (data_of s t) s.flags
      → leaving d s.a r ≡ judged w s (to_data s size t (ext_of size (data_of s t) s.flags))
  ext_step size t e went answers = written size t went answers (ap (λ (x : Answer). x.result) answers ∙ ext_whole size (data_of s t) s.flags e)

-- ---- a run of one step is that step

one_followed : (o : Outcome) (p : Performed) (line : ℕ) (on : State → ℕ → Ran) → ((x : Fault) → o ≡ Refused x → p.clocks ≡ 0) → on p.state 1 ≡ ends End.Finished p.state 1
    → let r = followed o p 0 line on in (r.state ≡ p.state) × ((outcome_from r.end ≡ o) × (r.clocks ≡ p.clocks))
one_followed Done p line on free at-end = rw at-end (refl, (refl, omega arith))
one_followed (Trapped trap) p line on free at-end = (refl, (refl, omega arith))
one_followed (Refused fault) p line on free at-end = (refl, (refl, sym (free fault refl)))

pub one_step : (s : State) (k : Step)
    → let r = run_of perform_of (k ∷ []) s 0 1 in (r.state ≡ (perform_of s k).state) × ((outcome_from r.end ≡ (perform_of s k).outcome) × (r.clocks ≡ (perform_of s k).clocks))
one_step s k =
    rw (run_step perform_of (k ∷ []) s 0 0 k refl)
    (one_followed (perform_of s k).outcome (perform_of s k) k.line (λ t q. run_of perform_of (k ∷ []) t q 0) (refused_free s k) (run_end perform_of (k ∷ []) (perform_of s k).state 1 0 refl))

-- what such a run says, its figure in 32 bits
abbrev one_of : Ran → Performed
one_of r = record { outcome = outcome_from r.end; state = r.state; clocks = r.clocks % 2 ^ 32 }

one_performed : (s : State) (k : Step) → one_of (run_of perform_of (k ∷ []) s 0 1) ≡ perform_of s k
one_performed s k =
    let is = one_step s k in
    rw (is.0, is.1.0, is.1.1, mod-eq_of_lt (perform_fits s k))

pub perform_step : (s : State) (k : Step) {left : Left} {d a : List ℕ} {o : Outcome} → o ≡ outcome_from left.end → ran_in left d a ≡ run_of perform_of (k ∷ []) s 0 1
    → record { outcome = o; state = held d a left.flags; clocks = left.clocks % 2 ^ 32 } ≡ perform_of s k
perform_step s k {left = left} {d = d} {a = a} comes ran =
    ap {B = Performed} (λ (o : Outcome). record { outcome = o; state = held d a left.flags; clocks = left.clocks % 2 ^ 32 }) comes ∙ (ap one_of ran ∙ one_performed s k)
