-- The loop of a run: what holds between two steps, and that a step keeps the answer that the run comes to. Over any step function whose refused steps
-- count no clocks and are not refused as past the end (`Sober`). And the first steps of an array (`first_steps`). Assumes nothing.
use Rattle.std.proofs.Common.{◌≡◌, ℕ, suc, ◌+◌, ◌-◌, ◌^◌, ◌<◌, ◌≤◌, min, Bool, true, false, cond, ◌&&◌, T, ltb, leb, List, length, get_or, take, sym, refl, ap, ◌∙◌, ap₂, add-zero, add-one, arith, take_all, ltb-false, ltb-true, leb-false, leb-true}
use mathlib.Core.Path.{subst⁻¹}
use lib.ListN.{get_or-eq_default}
use lib.Seq.{take-length}
use Rattle.alu.specs.declared.types.Flags.{Flags}
use Rattle.step.specs.declared.registers.State.{State}
use Rattle.step.specs.declared.forms.Step.{Step}
use Rattle.step.specs.declared.steps.Came.{Came}
use Rattle.step.specs.declared.steps.Came.TheVariants as How
use Rattle.step.specs.declared.steps.Fault.{Fault}
use Rattle.step.specs.declared.steps.Fault.TheVariants.{BadSmall, NoSuchSize, NoSuchRegister, StartPastEnd}
use Rattle.step.specs.declared.steps.Outcome.{Outcome}
use Rattle.step.specs.declared.steps.Outcome.TheVariants.{Done, Trapped, Refused}
use Rattle.step.specs.declared.steps.Performed.{Performed}
use Rattle.step.specs.declared.runs.End.{End}
use Rattle.step.specs.declared.runs.Left.{Left}
use Rattle.step.specs.declared.runs.Ran.{Ran}
use Rattle.step.specs.declared.runs.Course.{Course}
use Rattle.step.specs.Perform.{perform_of}
use Rattle.step.specs.Run.{counted, after, followed, run_of}
use Rattle.step.specs.Lent.{held, ran_in}
use Rattle.step.specs.Course.{came_out, is_done, course_of, stop_of, begin_of, turned, Advanced, stood_at, nowhere, halted_of, left_of, Ready, Halts}
use Rattle.step.proofs.Sound.{refused_free, never_past}
use Rattle.step.proofs.Laws.{no, spot_here, spot_end, spot_past, after_none, run_past, run_end, run_none, run_step, run_enough}

-- what an outcome says of its figure: a refused step counts no clocks, and stands before the end
pub record Free (x : Fault) (clocks : ℕ) : Type 0 where
  pub none : clocks ≡ 0
  pub before_end : x ≡ StartPastEnd → ⊥

abbrev Sober : (State → Step → Performed) → Type 0
Sober f = (s : State) (k : Step) (x : Fault) → (f s k).outcome ≡ Refused x → Free x (f s k).clocks

pub sober : Sober perform_of
sober s k x e = record { none = refused_free s k x e; before_end = λ p. never_past s k (e ∙ ap Refused p) }

-- the line of the step before a place
abbrev pub last_line : List Step → (next : ℕ) → ℕ
last_line l next = (get_or l (next - 1) nowhere).line

-- ---- the answer that a run comes to from where it stands
abbrev pub answer_of : (State → Step → Performed) → List Step → (start stop : ℕ) → (d a : List ℕ) → Course → Ran
answer_of f l start stop d a on =
    cond on.going (after (on.next - start) on.clocks (run_of f l (held d a on.flags) on.next (stop - on.next))) (ran_in (left_of (length l) start on (last_line l on.next)) d a)

abbrev ran_with : State → End → (next steps clocks : ℕ) → Ran
ran_with s e n k c = record { end = e; state = s; next = n; steps = k; clocks = c }

same_ran : (s : State) {e e' : End} {n n' k k' c c' : ℕ} → e ≡ e' → n ≡ n' → k ≡ k' → c ≡ c' → ran_with s e n k c ≡ ran_with s e' n' k' c'
same_ran s {e' = e'} {n' = n'} {k = k} {c = c} p q r t = ap₂ {C = Ran} (λ (e : End) (n : ℕ). ran_with s e n k c) p q ∙ ap₂ {C = Ran} (ran_with s e' n') r t

stood_before : (x : Fault) → (x ≡ StartPastEnd → ⊥) → (n : ℕ) → stood_at x (n + 1) ≡ n
stood_before BadSmall h n = omega arith
stood_before NoSuchSize h n = omega arith
stood_before NoSuchRegister h n = omega arith
stood_before StartPastEnd h n = absurd (h refl)

after_counted : (n m c k : ℕ) (r : Ran) → m ≡ suc n → after m (c + k) r ≡ after n c (counted k r)
after_counted n m c k r e = same_ran r.state refl refl (omega arith) (omega arith)

module _ (f : State → Step → Performed) (l : List Step) (start stop : ℕ) where
  -- no step was refused or trapped: the run stands at a place as any run would
  arrive_by : (t u : Bool) (c : Came) (q clocks : ℕ) (d a : List ℕ) (x : Flags) → came_out c ≡ Done → ltb q stop ≡ t → ltb q (length l) ≡ u → q ≤ stop → stop ≤ length l
      → answer_of f l start stop d a (course_of (ltb q stop) c q clocks x) ≡ after (q - start) clocks (run_of f l (held d a x) q (stop - q))
  arrive_by true u c q clocks d a x e p r h k = rw p
  arrive_by false true c q clocks d a x e p r h k =
      let here : stop - q ≡ 0 = omega (arith, ltb-false q stop p) in
      simp (p, e, r, here, run_none f l (held d a x) q (get_or l q nowhere) (spot_here l q nowhere (ltb-true q (length l) r)), add-zero)
  arrive_by false false c q clocks d a x e p r h k =
      let here : stop - q ≡ 0 = omega (arith, ltb-false q stop p) in
      simp (p, e, r, here, run_end f l (held d a x) q 0 (spot_end l q (omega (arith, ltb-false q (length l) r))), add-zero)

  arrive_answer : (c : Came) (q clocks : ℕ) (d a : List ℕ) (x : Flags) → came_out c ≡ Done → q ≤ stop → stop ≤ length l
      → answer_of f l start stop d a (course_of (ltb q stop) c q clocks x) ≡ after (q - start) clocks (run_of f l (held d a x) q (stop - q))
  arrive_answer c q clocks d a x e = arrive_by (ltb q stop) (ltb q (length l)) c q clocks d a x e refl refl

  -- after a step it is the last
  last_here : {n q : ℕ} → q ≡ n → (get_or l q nowhere).line ≡ (get_or l n nowhere).line
  last_here e = ap (λ (p : ℕ). (get_or l p nowhere).line) e

  -- after a step that came out so
  turned_answer : (o : Outcome) (c : Came) (b : ℕ) (p : Performed) (on : Course) → came_out c ≡ o → stop - on.next ≡ suc b → start ≤ on.next → stop ≤ length l → ((x : Fault) → o ≡ Refused x → Free x p.clocks)
      → answer_of f l start stop p.state.d p.state.a (turned stop on c p.clocks p.state.flags) ≡ after (on.next - start) on.clocks (followed o p on.next (get_or l on.next nowhere).line (λ t q. run_of f l t q b))
  turned_answer Done c b p on e h k m free =
      let n = on.next in
      let left : stop - (n + 1) ≡ b = omega arith in
      let going : (is_done (came_out c) && ltb (n + 1) stop) ≡ ltb (n + 1) stop = rw e in
      ap (λ (t : Bool). answer_of f l start stop p.state.d p.state.a (course_of t c (n + 1) (on.clocks + p.clocks) p.state.flags)) going
      ∙ (arrive_answer c (n + 1) (on.clocks + p.clocks) p.state.d p.state.a p.state.flags e (omega arith) m
      ∙ rw (left, add-one n) (after_counted (n - start) (suc n - start) on.clocks p.clocks _ (omega arith)))
  turned_answer (Trapped x) c b p on e h k m free =
      let at : on.next + 1 - 1 ≡ on.next = omega arith in
      rw e (same_ran p.state (ap₂ (End.Trapped x) at (last_here at)) (omega arith) (omega arith) (omega arith))
  turned_answer (Refused x) c b p on e h k m free =
      let quiet = free x refl in
      let at = stood_before x quiet.before_end on.next in
      let none = quiet.none in
      rw e (same_ran p.state (ap₂ (End.Refused x) at (last_here (omega arith))) at (omega (arith, at)) (omega (arith, none)))

-- ---- the run's last place
pub stop_few : (len start budget : ℕ) → (start ≤ stop_of len start budget) × ((stop_of len start budget ≤ start + budget) × (start < stop_of len start budget → stop_of len start budget ≤ len))
stop_few len start budget = (omega arith, (omega arith, λ h. omega arith))

-- ---- where a run starts
module _ (f : State → Step → Performed) (l : List Step) where
  most_by : (u : Bool) (s : State) (start budget : ℕ) → start ≤ length l → ltb (length l - start) budget ≡ u → run_of f l s start (stop_of (length l) start budget - start) ≡ run_of f l s start budget
  most_by true s start budget h q =
      let less = ltb-true (length l - start) budget q in
      let few : stop_of (length l) start budget - start ≡ length l - start = omega arith in
      rw few (sym (run_enough f l (length l - start) budget s start (omega arith) (omega arith)))
  most_by false s start budget h q =
      let more = ltb-false (length l - start) budget q in
      let few : stop_of (length l) start budget - start ≡ budget = omega arith in rw few

  begin_by : (t : Bool) (s : State) (start budget : ℕ) → leb start (length l) ≡ t
      → let stop = stop_of (length l) start budget in answer_of f l start stop s.d s.a (begin_of (length l) start stop s.flags) ≡ run_of f l s start budget
  begin_by true s start budget p =
      let stop = stop_of (length l) start budget in
      let inside = leb-true start (length l) p in
      let zero-yet : start - start ≡ 0 = omega arith in
      rw p (arrive_answer f l start stop How.Done start 0 s.d s.a s.flags refl (omega arith) (omega arith)
      ∙ rw zero-yet (after_none _ ∙ most_by (ltb (length l - start) budget) s start budget inside refl))
  begin_by false s start budget p =
      let past = leb-false start (length l) p in
      let none : last_line l start ≡ 0 = ap (λ (k : Step). k.line) (get_or-eq_default l nowhere (omega arith)) in
      rw p (same_ran s (ap (End.Refused StartPastEnd start) none) refl (omega arith) refl ∙ sym (run_past f l s start budget (spot_past l start past)))

  -- it comes to the run's answer
  pub begin_answer : (s : State) (start budget : ℕ)
      → let stop = stop_of (length l) start budget in answer_of f l start stop s.d s.a (begin_of (length l) start stop s.flags) ≡ run_of f l s start budget
  begin_answer s start budget = begin_by (leb start (length l)) s start budget refl

-- ---- between two steps: the run stands from its start to its last place, a step can be done where it goes on, and the steps can be counted
pub record Runs (len start stop : ℕ) (on : Course) : Type 0 where
  pub from : start ≤ on.next
  pub to : on.next ≤ stop
  pub ready : on.going ≡ true → Ready stop on
  pub halts : (line : ℕ) → Halts len start on line

begin_runs_by : (t : Bool) (len start budget : ℕ) (f : Flags) → budget < 2 ^ 32 → leb start len ≡ t → let stop = stop_of len start budget in Runs len start stop (begin_of len start stop f)
begin_runs_by true len start budget f h p =
    let stop = stop_of len start budget in
    rw p (record { from = omega arith; to = omega arith; ready = λ g. record { inside = ltb-true start stop g; room = omega arith }; halts = λ line. record { from = omega arith; few = omega arith } })
begin_runs_by false len start budget f h p = rw p (record { from = omega arith; to = omega arith; ready = no; halts = λ line. record { from = omega arith; few = omega arith } })

pub begin_runs : (len start budget : ℕ) (f : Flags) → budget < 2 ^ 32 → let stop = stop_of len start budget in Runs len start stop (begin_of len start stop f)
begin_runs len start budget f h = begin_runs_by (leb start len) len start budget f h refl

halted_near : (o : Outcome) (len n line : ℕ) → (n ≤ (halted_of o len (n + 1) line).next) × ((halted_of o len (n + 1) line).next ≤ n + 1)
halted_near Done len n line = (omega arith, omega arith)
halted_near (Trapped x) len n line = (omega arith, omega arith)
halted_near (Refused BadSmall) len n line = (omega arith, omega arith)
halted_near (Refused NoSuchSize) len n line = (omega arith, omega arith)
halted_near (Refused NoSuchRegister) len n line = (omega arith, omega arith)
halted_near (Refused StartPastEnd) len n line = (omega arith, omega arith)

both_true : (t u : Bool) → (t && u) ≡ true → u ≡ true
both_true true u e = e
both_true false u e = no e

module _ (len start stop : ℕ) (on : Course) (few : stop < start + 2 ^ 32) (g : on.going ≡ true) (w : Runs len start stop on) where
  turned_runs : (c : Came) (clocks : ℕ) (f : Flags) → clocks < 2 ^ 32 → Runs len start stop (turned stop on c clocks f)
  turned_runs c clocks f k =
      let r = w.ready g in
      let later : start ≤ on.next = w.from in
      let inside : on.next < stop = r.inside in
      record {
        from = omega arith;
        to = omega arith;
        ready = λ e. record { inside = ltb-true (on.next + 1) stop (both_true (is_done (came_out c)) _ e); room = omega (arith, r.room) };
        halts = λ line. let near = halted_near (came_out c) len on.next line in record { from = omega (arith, near.0); few = omega (arith, near.1) };
      }

  pub turn_runs : (p : Performed) (d a : List ℕ) (r : Course) → p.clocks < 2 ^ 32 → Advanced stop on p d a r → Runs len start stop r
  turn_runs p d a r k adv = subst⁻¹ (λ (r : Course). Runs len start stop r) adv.course (turned_runs r.came p.clocks p.state.flags k)

-- a step was performed, as q by the code and as p by the definition; it came out as c, and t says whether it is done
pub advanced : (stop : ℕ) (on : Course) (q p : Performed) (c : Came) (t : Bool) {r : Course} → q ≡ p → came_out c ≡ q.outcome → is_done (came_out c) ≡ t
    → r ≡ course_of (t && ltb (on.next + 1) stop) c (on.next + 1) (on.clocks + q.clocks) q.state.flags → Advanced stop on p q.state.d q.state.a r
advanced stop on q p c t {r = r} e came is h = record {
  data_registers = ap (λ (p : Performed). p.state.d) e;
  address_registers = ap (λ (p : Performed). p.state.a) e;
  outcome = ap (λ (r : Course). came_out r.came) h ∙ (came ∙ ap (λ (p : Performed). p.outcome) e);
  course = h ∙ (ap (λ (t : Bool). course_of (t && ltb (on.next + 1) stop) c (on.next + 1) (on.clocks + q.clocks) q.state.flags) (sym is)
      ∙ (ap (λ (q : Performed). turned stop on c q.clocks q.state.flags) e ∙ ap (λ (c : Came). turned stop on c p.clocks p.state.flags) (sym (ap (λ (r : Course). r.came) h))));
}

-- ---- a step doesn't change the answer that a run comes to
module _ (f : State → Step → Performed) (sober : Sober f) (l : List Step) (start stop : ℕ) where
  turn_by : (b : ℕ) (d a : List ℕ) (on : Course) (c : Came) → on.going ≡ true → stop - on.next ≡ suc b → start ≤ on.next → stop ≤ length l
      → let p = f (held d a on.flags) (get_or l on.next nowhere) in came_out c ≡ p.outcome
      → answer_of f l start stop p.state.d p.state.a (turned stop on c p.clocks p.state.flags) ≡ answer_of f l start stop d a on
  turn_by b d a on c g e h k came =
      let t = get_or l on.next nowhere in
      let s = held d a on.flags in
      turned_answer f l start stop (f s t).outcome c b (f s t) on came e h k (sober s t)
      ∙ sym (simp (g, e, run_step f l s on.next b t (spot_here l on.next nowhere (omega arith))))

  pub turn_answer : (d a d' a' : List ℕ) (on r : Course) → on.going ≡ true → Runs (length l) start stop on → stop ≤ length l
      → Advanced stop on (f (held d a on.flags) (get_or l on.next nowhere)) d' a' r → answer_of f l start stop d' a' r ≡ answer_of f l start stop d a on
  turn_answer d a d' a' on r g w k adv =
      let inside : on.next < stop = (w.ready g).inside in
      let p = f (held d a on.flags) (get_or l on.next nowhere) in
      ap₂ {C = Ran} (λ (d a : List ℕ). answer_of f l start stop d a r) adv.data_registers adv.address_registers
      ∙ (ap (λ (r : Course). answer_of f l start stop p.state.d p.state.a r) adv.course
      ∙ turn_by (stop - on.next - 1) d a on r.came g (omega arith) w.from k adv.outcome)

-- a run that has ended says its answer
pub stopped_answer : (f : State → Step → Performed) (l : List Step) (start stop : ℕ) (d a : List ℕ) (on : Course) → on.going ≡ false → ran_in (left_of (length l) start on (last_line l on.next)) d a ≡ answer_of f l start stop d a on
stopped_answer f l start stop d a on g = rw g

pub is_true : (t : Bool) → T t → t ≡ true
is_true true h = refl
is_true false h = absurd h

-- where each step was done, no line is told
pub any_line : (len start line : ℕ) (on : Course) (n : ℕ) → is_done (came_out on.came) ≡ true → left_of len start on line ≡ left_of len start on n
any_line len start line on n e = go (came_out on.came) e
  where
    left : Outcome → (line : ℕ) → Left
    left o line = let halt = halted_of o len on.next line in record { end = halt.end; next = halt.next; steps = halt.next - start; clocks = on.clocks; flags = on.flags }

    go : (o : Outcome) → is_done o ≡ true → left o line ≡ left o n
    go Done h = refl
    go (Trapped x) h = no h
    go (Refused x) h = no h

-- the variant of the loop: the places that are left, and one while the run goes on
abbrev pub left_in : (stop : ℕ) → Course → ℕ
left_in stop on = cond on.going (suc (stop - on.next)) 0

fewer_by : (t : Bool) (n m : ℕ) → n < m → cond t (suc n) 0 < suc m
fewer_by true n m h = omega arith
fewer_by false n m h = omega arith

pub turn_less : (stop : ℕ) (on : Course) (p : Performed) (d a : List ℕ) (r : Course) → on.going ≡ true → Ready stop on → Advanced stop on p d a r → left_in stop r < left_in stop on
turn_less stop on p d a r g w adv =
    let inside : on.next < stop = w.inside in
    let now : left_in stop on ≡ suc (stop - on.next) = rw g in
    subst⁻¹ (λ (n : ℕ). left_in stop r < n) now
    (subst⁻¹ (λ (r : Course). left_in stop r < suc (stop - on.next)) adv.course
    (fewer_by (turned stop on r.came p.clocks p.state.flags).going (stop - (on.next + 1)) (stop - on.next) (omega arith)))

-- ---- a listing in the first steps of an array: a count above its length means all of them
first_by : (t : Bool) (n m : ℕ) (l : List Step) → length l ≡ m → leb n m ≡ t → take (min n m) l ≡ take n l
first_by true n m l e p =
    let few = leb-true n m p in
    let same : min n m ≡ n = omega arith in rw same
first_by false n m l e p =
    let more = leb-false n m p in
    let whole : min n m ≡ length l = omega arith in rw whole (take-length l ∙ sym (take_all n l (omega arith)))

pub first_steps : (n m : ℕ) (l : List Step) → length l ≡ m → take (min n m) l ≡ take n l
first_steps n m l e = first_by (leb n m) n m l e refl
