-- Two answers that satisfy the contract of a function of this crate are equal: the contract is that of a function of recipe_calls, and what is known
-- of that one is known of it. tools/contracts looks that none is left out.
-- Assumes nothing.
use seplogic.Ra.Ura.{Ura}
use base.Logic.{SProp}
use prog.Memory.{Memory}
use prog.Routine.{Routine}
use types.Logic.{Logic}
use contract.Monad.{Fun}
use contract.Lifetimes.{Lfts}
use denote.Triple.Entry.{Args}
use Rattle.step.proofs.Determined.{OneExit}
use Rattle.text.specs.Wrote.{written}
use Rattle.recipe_calls.specs.Calls.{row_left, state_left, rack_left}
use Rattle.recipe_calls.proofs.Determined as of
use Rattle.recipe_archive.specs.contracts.recipe_translate as recipe-translate
use Rattle.recipe_archive.specs.contracts.listing_run as listing-run
use Rattle.recipe_archive.specs.contracts.rack_run as rack_run
use Rattle.recipe_archive.specs.contracts.listing_print as listing-print
use Rattle.recipe_archive.specs.contracts.recipe_answer as recipe-answer
use Rattle.recipe_archive.specs.contracts.recipe_run as recipe-run

module _ {M : Type 1} {𝓤 : Ura M} (𝓛 : Logic 𝓤) (mem : Memory → SProp 𝓤) (go : Routine → Fun 𝓤) where
  pub recipe_translate_determined :
      (κs : Lfts 3) (a : Args recipe-translate.signature κs) → OneExit 𝓤 recipe-translate.ended κs a (λ r ws. row_left ws.1.0 ws.1.1.0) ((recipe-translate.clauses 𝓛 mem go κs a).ensures tt)
  recipe_translate_determined κs a = of.recipe_translate_determined 𝓛 mem go κs a

  pub listing_run_determined :
      (κs : Lfts 5) (a : Args listing-run.signature κs) →
      OneExit 𝓤 listing-run.ended κs a (λ r ws. state_left ws.1.0 ws.1.1.0 ws.1.1.1.0 ws.1.1.1.1.1.1.0) ((listing-run.clauses 𝓛 mem go κs a).ensures tt)
  listing_run_determined κs a = of.listing_run_determined 𝓛 mem go κs a

  pub rack_run_determined :
      (κs : Lfts 7) (a : Args rack_run.signature κs) →
      OneExit 𝓤 rack_run.ended κs a (λ r ws. rack_left ws.1.0 ws.1.1.0 ws.1.1.1.0 ws.1.1.1.1.1.1.0 ws.1.1.1.1.1.1.1.0)
      ((rack_run.clauses 𝓛 mem go κs a).ensures tt)
  rack_run_determined κs a = of.rack_run_determined 𝓛 mem go κs a

  pub listing_print_determined :
      (κs : Lfts 2) (a : Args listing-print.signature κs) → OneExit 𝓤 listing-print.ended κs a (λ r ws. written ws.1.1.0 r) ((listing-print.clauses 𝓛 mem go κs a).ensures tt)
  listing_print_determined κs a = of.listing_print_determined 𝓛 mem go κs a

  pub recipe_answer_determined :
      (κs : Lfts 2) (a : Args recipe-answer.signature κs) → OneExit 𝓤 recipe-answer.ended κs a (λ r ws. written ws.1.0 r) ((recipe-answer.clauses 𝓛 mem go κs a).ensures tt)
  recipe_answer_determined κs a = of.recipe_answer_determined 𝓛 mem go κs a

  pub recipe_run_determined :
      (κs : Lfts 5) (a : Args recipe-run.signature κs) →
      OneExit 𝓤 recipe-run.ended κs a (λ r ws. state_left ws.1.0 ws.1.1.0 ws.1.1.1.0 ws.1.1.1.1.0) ((recipe-run.clauses 𝓛 mem go κs a).ensures tt)
  recipe_run_determined κs a = of.recipe_run_determined 𝓛 mem go κs a
