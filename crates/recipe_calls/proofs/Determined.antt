-- Two answers that satisfy the contract of a public function of this crate are equal: at exit it says one equation, of all that stands behind the
-- references (`OneExit` of the crate step). tools/contracts looks that none is left out. Assumes nothing.
use mathlib.Core.Path.{refl, ap}
use seplogic.Ra.Ura.{Ura}
use base.Logic.{SProp}
use prog.Memory.{Memory}
use prog.Routine.{Routine}
use types.Logic.{Logic}
use contract.Monad.{Fun}
use contract.Lifetimes.{Lfts}
use denote.Triple.Entry.{Args}
use Rattle.step.proofs.Determined.{OneExit}
use Rattle.text.specs.Wrote.{Written, written, writing}
use Rattle.recipes.specs.Printer.{listing_text, answer_of}
use Rattle.recipe_calls.specs.Words.{first_of}
use Rattle.recipe_calls.specs.Calls.{RowLeft, StateLeft, RackLeft, row_left, state_left, rack_left, translate_words, run_words, rack_words, recipe_run_words}
use Rattle.recipe_calls.specs.contracts.recipe_translate as recipe-translate
use Rattle.recipe_calls.specs.contracts.listing_run as listing-run
use Rattle.recipe_calls.specs.contracts.rack_run as rack_run
use Rattle.recipe_calls.specs.contracts.listing_print as listing-print
use Rattle.recipe_calls.specs.contracts.recipe_answer as recipe-answer
use Rattle.recipe_calls.specs.contracts.recipe_run as recipe-run

module _ {M : Type 1} {𝓤 : Ura M} (𝓛 : Logic 𝓤) (mem : Memory → SProp 𝓤) (go : Routine → Fun 𝓤) where
  pub recipe_translate_determined :
      (κs : Lfts 3) (a : Args recipe-translate.signature κs) →
      OneExit 𝓤 recipe-translate.ended κs a (λ r ws. row_left ws.1.0 ws.1.1.0) ((recipe-translate.clauses 𝓛 mem go κs a).ensures tt)
  recipe_translate_determined κs a = record {
    of = translate_words a.0.now a.1.0.now;
    is = λ r ws. refl;
    all = λ r r' ws ws' e. (refl, ap (λ (l : RowLeft). (tt, (l.row, (l.told, tt)))) e);
  }

  pub listing_run_determined :
      (κs : Lfts 5) (a : Args listing-run.signature κs) →
      OneExit 𝓤 listing-run.ended κs a (λ r ws. state_left ws.1.0 ws.1.1.0 ws.1.1.1.0 ws.1.1.1.1.1.1.0) ((listing-run.clauses 𝓛 mem go κs a).ensures tt)
  listing_run_determined κs a = record {
    of = run_words a.0.now a.1.0.now a.1.1.0.now a.1.1.1.0.now a.1.1.1.1.0 a.1.1.1.1.1.0;
    is = λ r ws. refl;
    all = λ r r' ws ws' e. (refl, ap (λ (l : StateLeft). (tt, (l.d, (l.a, (l.flags, (tt, (tt, (l.told, tt)))))))) e);
  }

  pub rack_run_determined :
      (κs : Lfts 7) (a : Args rack_run.signature κs) →
      OneExit 𝓤 rack_run.ended κs a (λ r ws. rack_left ws.1.0 ws.1.1.0 ws.1.1.1.0 ws.1.1.1.1.1.1.0 ws.1.1.1.1.1.1.1.0)
      ((rack_run.clauses 𝓛 mem go κs a).ensures tt)
  rack_run_determined κs a = record {
    of = rack_words a.0.now a.1.0.now a.1.1.0.now a.1.1.1.0.now a.1.1.1.1.0.now a.1.1.1.1.1.0 a.1.1.1.1.1.1.0.now;
    is = λ r ws. refl;
    all = λ r r' ws ws' e. (refl, ap (λ (l : RackLeft). (tt, (l.d, (l.a, (l.flags, (tt, (tt, (l.answers, (l.told, tt))))))))) e);
  }

  pub listing_print_determined :
      (κs : Lfts 2) (a : Args listing-print.signature κs) → OneExit 𝓤 listing-print.ended κs a (λ r ws. written ws.1.1.0 r) ((listing-print.clauses 𝓛 mem go κs a).ensures tt)
  listing_print_determined κs a = record {
    of = writing a.1.1.0.now 0 (listing_text a.0 (first_of a.1.0.now));
    is = λ r ws. refl;
    all = λ r r' ws ws' e. (ap (λ (w : Written). w.next) e, ap (λ (w : Written). (tt, (tt, (w.bytes, tt)))) e);
  }

  pub recipe_answer_determined :
      (κs : Lfts 2) (a : Args recipe-answer.signature κs) → OneExit 𝓤 recipe-answer.ended κs a (λ r ws. written ws.1.0 r) ((recipe-answer.clauses 𝓛 mem go κs a).ensures tt)
  recipe_answer_determined κs a = record {
    of = writing a.1.0.now 0 (answer_of a.0.now);
    is = λ r ws. refl;
    all = λ r r' ws ws' e. (ap (λ (w : Written). w.next) e, ap (λ (w : Written). (tt, (w.bytes, tt))) e);
  }

  pub recipe_run_determined :
      (κs : Lfts 5) (a : Args recipe-run.signature κs) →
      OneExit 𝓤 recipe-run.ended κs a (λ r ws. state_left ws.1.0 ws.1.1.0 ws.1.1.1.0 ws.1.1.1.1.0) ((recipe-run.clauses 𝓛 mem go κs a).ensures tt)
  recipe_run_determined κs a = record {
    of = recipe_run_words a.0.now a.1.0.now a.1.1.0.now a.1.1.1.0.now;
    is = λ r ws. refl;
    all = λ r r' ws ws' e. (refl, ap (λ (l : StateLeft). (tt, (l.d, (l.a, (l.flags, (l.told, tt)))))) e);
  }
