-- Document 01, "What each statement must exclude": two answers that satisfy the contract of a public function of this crate are equal, and so is all
-- that stands behind the references that it was lent.
--     determined       the functions that are lent nothing
--     OneExit          what is shown of a function that is lent something: at exit its contract says one equation, of the whole answer; and two whole
--                      answers are equal only if the results are, and all that stands behind the references that may be written. What those are
--                      the function's signature says (`Lasts`), so that a row can leave none out
--     same_exit        so two answers that satisfy the contract are equal, and what they leave behind every such reference
--     .. -determined   so each of them, by the contract that stands in its code. tools/contracts looks that none is left out
-- Assumes nothing.
use Rattle.std.proofs.Common.{◌≡◌, List, [], ◌∷◌, get_or, set, sym, refl, ap, ◌∙◌}
use seplogic.Ra.Ura.{Ura}
use base.Logic.{SProp}
use prog.Memory.{Memory}
use prog.Routine.{Routine}
use types.Logic.{Logic}
use contract.Monad.{Fun, fact}
use contract.Lifetimes.{Lfts}
use denote.Triple.Entry.{Args, Res}
use denote.Triple.Clauses.{Ended, Lasts, AtExit, at_exit}
use Rattle.alu.proofs.Determined.{Fixed, fixed, one_equation}
use Rattle.step.specs.declared.forms.Step.{Step}
use Rattle.step.specs.declared.steps.Performed.{Performed}
use Rattle.step.specs.declared.runs.Ran.{Ran}
use Rattle.step.specs.declared.runs.Left.{Left}
use Rattle.step.specs.declared.lent.Told.{Told}
use Rattle.step.specs.Perform.{perform_of}
use Rattle.step.specs.Run.{run_of, resumed_of}
use Rattle.step.specs.Lent.{performed, held, ran_in}
use Rattle.step.specs.Rack.{Rack, left, rack_of}
use Rattle.step.proofs.forms.operation_of.Reads as operation-of
use Rattle.step.proofs.forms.operation_at.Reads as operation-at
use Rattle.step.proofs.forms.U8FromOperation.from.Reads as u8-from-operation
use Rattle.step.proofs.forms.with_line.Reads as with-line
use Rattle.step.proofs.steps.U32FromFault.from.Reads as u32-from-fault
use Rattle.step.proofs.steps.U32FromTrap.from.Reads as u32-from-trap
use Rattle.step.proofs.steps.perform.Reads as perform
use Rattle.step.proofs.runs.run_array.Reads as run-array
use Rattle.step.proofs.runs.begun.Reads as begun
use Rattle.step.proofs.runs.End.line.Reads as end-line
use Rattle.step.proofs.racks.U8FromTooManyBoxes.from.Reads as u8-from-too-many-boxes
use Rattle.step.proofs.racks.BoxedFromRan.from.Reads as boxed-from-ran
use Rattle.step.proofs.racks.plan.Reads as plan
use Rattle.step.specs.contracts.racks.rack as rack
use Rattle.step.specs.contracts.lent.perform_in as perform-in
use Rattle.step.specs.contracts.lent.run_in as run_in
use Rattle.step.specs.contracts.lent.run as run
use Rattle.step.specs.contracts.runs.resumed as resumed
use Rattle.step.specs.contracts.lent.fetch as fetch
use Rattle.step.specs.contracts.lent.store as store

pub determined : List Fixed
determined =
    fixed operation-of.Learnt (one_equation _) ∷
    fixed operation-at.Learnt (one_equation _) ∷
    fixed u8-from-operation.Learnt (one_equation _) ∷
    fixed with-line.Learnt (one_equation _) ∷
    fixed u32-from-fault.Learnt (one_equation _) ∷
    fixed u32-from-trap.Learnt (one_equation _) ∷
    fixed perform.Learnt (one_equation _) ∷
    fixed run-array.Learnt (one_equation _) ∷
    fixed begun.Learnt (one_equation _) ∷
    fixed end-line.Learnt (one_equation _) ∷
    fixed u8-from-too-many-boxes.Learnt (one_equation _) ∷
    fixed boxed-from-ran.Learnt (one_equation _) ∷
    fixed plan.Learnt (one_equation _) ∷ []

-- `whole r ws`: of the result r and of the last values ws behind all references that the function may write through
module _ {M : Type 1} (𝓤 : Ura M) (T : Ended) (κs : Lfts T.signature.lifetimes) (a : Args T.signature κs) {Whole : Type 0}
    (whole : Res T.signature κs → Lasts T κs a → Whole)
  where
    pub record OneExit (says : Res T.signature κs → AtExit T κs → SProp 𝓤) : Type 2 where
      pub of : Whole
      pub is : (r : Res T.signature κs) (ws : Lasts T κs a) → says r (at_exit T κs a ws) ≡ fact 𝓤 (whole r ws ≡ of)
      pub all : (r r' : Res T.signature κs) (ws ws' : Lasts T κs a) → whole r ws ≡ whole r' ws' → (r ≡ r') × (ws ≡ ws')

    pub same_exit : {says : Res T.signature κs → AtExit T κs → SProp 𝓤} (o : OneExit says) (r r' : Res T.signature κs) (ws ws' : Lasts T κs a)
        → whole r ws ≡ o.of → whole r' ws' ≡ o.of → (r ≡ r') × (ws ≡ ws')
    same_exit o r r' ws ws' p q = o.all r r' ws ws' (p ∙ sym q)

abbrev told_in : Performed → Told
told_in p = record { outcome = p.outcome; clocks = p.clocks }

abbrev left_by : Ran → Left
left_by r = record { end = r.end; next = r.next; steps = r.steps; clocks = r.clocks; flags = r.state.flags }

module _ {M : Type 1} {𝓤 : Ura M} (𝓛 : Logic 𝓤) (mem : Memory → SProp 𝓤) (go : Routine → Fun 𝓤) (κs : Lfts 1) where
  pub perform_in_determined : (a : Args perform-in.signature κs) → OneExit 𝓤 perform-in.ended κs a (λ r ws. performed r ws.0) ((perform-in.clauses 𝓛 mem go κs a).ensures tt)
  perform_in_determined a = record {
    of = perform_of a.0.now a.1.0;
    is = λ r ws. refl;
    all = λ r r' ws ws' e. (ap told_in e, ap (λ (p : Performed). (p.state, (tt, tt))) e);
  }

  pub run_determined : (a : Args run.signature κs) → OneExit 𝓤 run.ended κs a (λ r ws. r) ((run.clauses 𝓛 mem go κs a).ensures tt)
  run_determined a = record { of = run_of perform_of a.0.now a.1.0 a.1.1.0 a.1.1.1.0; is = λ r ws. refl; all = λ r r' ws ws' e. (e, refl) }

  pub resumed_determined : (a : Args resumed.signature κs) → OneExit 𝓤 resumed.ended κs a (λ r ws. r) ((resumed.clauses 𝓛 mem go κs a).ensures tt)
  resumed_determined a = record { of = resumed_of perform_of a.0.now a.1.0 a.1.1.0; is = λ r ws. refl; all = λ r r' ws ws' e. (e, refl) }

  pub fetch_determined : (a : Args fetch.signature κs) → OneExit 𝓤 fetch.ended κs a (λ r ws. r) ((fetch.clauses 𝓛 mem go κs a).ensures tt)
  fetch_determined a = record { of = get_or a.0.now a.1.0 a.1.1.0; is = λ r ws. refl; all = λ r r' ws ws' e. (e, refl) }

  pub store_determined : (a : Args store.signature κs) → OneExit 𝓤 store.ended κs a (λ r ws. ws.0) ((store.clauses 𝓛 mem go κs a).ensures tt)
  store_determined a = record {
    of = set a.0.now a.1.0 a.1.1.0;
    is = λ r ws. refl;
    all = λ r r' ws ws' e. (refl, ap (λ (l : List Step). (l, (tt, (tt, tt)))) e);
  }

module _ {M : Type 1} {𝓤 : Ura M} (𝓛 : Logic 𝓤) (mem : Memory → SProp 𝓤) (go : Routine → Fun 𝓤) (κs : Lfts 3) where
  pub run_in_determined : (a : Args run_in.signature κs) → OneExit 𝓤 run_in.ended κs a (λ r ws. ran_in r ws.1.0 ws.1.1.0) ((run_in.clauses 𝓛 mem go κs a).ensures tt)
  run_in_determined a = record {
    of = run_of perform_of a.0.now (held a.1.0.now a.1.1.0.now a.1.1.1.0) a.1.1.1.1.0 a.1.1.1.1.1.0;
    is = λ r ws. refl;
    all = λ r r' ws ws' e. (ap left_by e, ap (λ (r : Ran). (tt, (r.state.d, (r.state.a, (tt, (tt, (tt, tt))))))) e);
  }

module _ {M : Type 1} {𝓤 : Ura M} (𝓛 : Logic 𝓤) (mem : Memory → SProp 𝓤) (go : Routine → Fun 𝓤) (κs : Lfts 4) where
  -- the listing and the start places are only read
  pub rack_determined : (a : Args rack.signature κs) → OneExit 𝓤 rack.ended κs a (λ r ws. left r ws.1.0 ws.1.1.1.1.0) ((rack.clauses 𝓛 mem go κs a).ensures tt)
  rack_determined a = record {
    of = rack_of perform_of a.0.now a.1.0.now a.1.1.0.now a.1.1.1.0 a.1.1.1.1.0.now;
    is = λ r ws. refl;
    all = λ r r' ws ws' e. (ap (λ (k : Rack). k.plan) e, ap (λ (k : Rack). (tt, (k.sets, (tt, (tt, (k.answers, tt)))))) e);
  }
