-- Document 01, "What each statement must exclude": two answers that satisfy the contract of a public function of this crate are equal, and so is all
-- that stands behind the references that it was lent.
--     determined       the functions that are lent nothing
--     .. -determined   those that are lent a slice or a row of steps, by `OneExit` of the crate step: at exit the contract says one equation, of the
--                      whole answer, the result together with all that stands behind the references. tools/contracts looks that none is left out
--     OneExit-lent     what is shown of a method that hands out a slice of its own struct: what stands there. (Where that is, the kit's logic alone says.)
-- Assumes nothing.
use mathlib.Core.Path.{◌≡◌, refl, ap}
use mathlib.Core.List.{List, [], ◌∷◌}
use Prim.Native.Nat.{ℕ}
use lib.ListN.{take}
use seplogic.Ra.Ura.{Ura}
use base.Logic.{SProp}
use prog.Memory.{Memory}
use prog.Routine.{Routine}
use types.Logic.{Logic}
use contract.Monad.{Fun, fact}
use contract.Lifetimes.{Lfts}
use denote.Triple.Entry.{Args, Res}
use denote.Triple.Clauses.{Ended, Lasts, AtExit, at_exit}
use Rattle.alu.proofs.Determined.{Fixed, fixed, one_equation}
use Rattle.step.proofs.Determined.{OneExit}
use Rattle.std.specs.Prelude.{Result}
use Rattle.recipes.specs.declared.types.Refused.{Refused}
use Rattle.text.specs.Wrote.{Written, written, writing}
use Rattle.recipes.specs.Recipe.{recipe_lines}
use Rattle.recipes.specs.Reader.{read_of}
use Rattle.step.specs.Run.{array_slots}
use Rattle.recipes.specs.Listing.{Translated, translated, translate_of, used_slots}
use Rattle.recipes.specs.Printer.{step_text, listing_text, refusal_text, printed_of, answer_of}
use Rattle.recipes.specs.Demand.{text_run_of}
use Rattle.recipes.proofs.types.U8FromRefusal.from.Reads as u8-from-refusal
use Rattle.recipes.proofs.types.at_line.Reads as at-line
use Rattle.recipes.proofs.types.RecipeDefault.default.Reads as recipe-default
use Rattle.recipes.proofs.lines.target.Reads as target
use Rattle.recipes.proofs.translator.translate_array.Reads as translate-array
use Rattle.recipes.proofs.runner.run_recipe.Reads as run-recipe
use Rattle.recipes.specs.contracts.types.Recipe.lines as lines
use Rattle.recipes.specs.contracts.types.Listing.steps as steps
use Rattle.recipes.specs.contracts.reader.read as read
use Rattle.recipes.specs.contracts.lent.translate as translate
use Rattle.recipes.specs.contracts.printer.print_step as print-step
use Rattle.recipes.specs.contracts.printer.print as print
use Rattle.recipes.specs.contracts.printer.print_refusal as print-refusal
use Rattle.recipes.specs.contracts.runner.print_recipe as print-recipe
use Rattle.recipes.specs.contracts.runner.answer as answer
use Rattle.recipes.specs.contracts.runner.run_text as run-text

pub determined : List Fixed
determined =
    fixed u8-from-refusal.Learnt (one_equation _) ∷ fixed at-line.Learnt (one_equation _) ∷ fixed recipe-default.Learnt (one_equation _) ∷ fixed target.Learnt (one_equation _) ∷ fixed translate-array.Learnt (one_equation _) ∷ fixed run-recipe.Learnt (one_equation _) ∷ []

abbrev told_in : Translated → Result ℕ Refused
told_in t = t.told

abbrev count_in : Written → ℕ
count_in w = w.next

module _ {M : Type 1} (𝓤 : Ura M) (T : Ended) (κs : Lfts T.signature.lifetimes) (a : Args T.signature κs) {Lent : Type 0} (lent : Res T.signature κs → Lent) where
  pub record OneExit-lent (says : Res T.signature κs → AtExit T κs → SProp 𝓤) : Type 2 where
    pub of : Lent
    pub is : (r : Res T.signature κs) (ws : Lasts T κs a) → says r (at_exit T κs a ws) ≡ fact 𝓤 (lent r ≡ of)

module _ {M : Type 1} {𝓤 : Ura M} (𝓛 : Logic 𝓤) (mem : Memory → SProp 𝓤) (go : Routine → Fun 𝓤) where
  pub lines_determined : (κs : Lfts 1) (a : Args lines.signature κs) → OneExit-lent 𝓤 lines.ended κs a (λ r. r.now) ((lines.clauses 𝓛 mem go κs a).ensures tt)
  lines_determined κs a = record { of = recipe_lines a.0.now; is = λ r ws. refl }

  pub steps_determined : (κs : Lfts 1) (a : Args steps.signature κs) → OneExit-lent 𝓤 steps.ended κs a (λ r. r.now) ((steps.clauses 𝓛 mem go κs a).ensures tt)
  steps_determined κs a = record { of = used_slots a.0.now; is = λ r ws. refl }

  pub read_determined : (κs : Lfts 1) (a : Args read.signature κs) → OneExit 𝓤 read.ended κs a (λ r ws. r) ((read.clauses 𝓛 mem go κs a).ensures tt)
  read_determined κs a = record { of = read_of a.0.now; is = λ r ws. refl; all = λ r r' ws ws' e. (e, refl) }

  pub translate_determined : (κs : Lfts 1) (a : Args translate.signature κs) → OneExit 𝓤 translate.ended κs a (λ r ws. translated r ws.1.0) ((translate.clauses 𝓛 mem go κs a).ensures tt)
  translate_determined κs a = record {
    of = translate_of a.0 a.1.0.now;
    is = λ r ws. refl;
    all = λ r r' ws ws' e. (ap told_in e, ap (λ (t : Translated). (tt, (t.slots, tt))) e);
  }

  pub print_step_determined : (κs : Lfts 1) (a : Args print-step.signature κs) → OneExit 𝓤 print-step.ended κs a (λ r ws. written ws.1.1.0 r) ((print-step.clauses 𝓛 mem go κs a).ensures tt)
  print_step_determined κs a = record {
    of = writing a.1.1.0.now 0 (step_text a.0 a.1.0);
    is = λ r ws. refl;
    all = λ r r' ws ws' e. (ap count_in e, ap (λ (w : Written). (tt, (tt, (w.bytes, tt)))) e);
  }

  pub print_determined : (κs : Lfts 2) (a : Args print.signature κs) → OneExit 𝓤 print.ended κs a (λ r ws. written ws.1.1.0 r) ((print.clauses 𝓛 mem go κs a).ensures tt)
  print_determined κs a = record {
    of = writing a.1.1.0.now 0 (listing_text a.0 (take array_slots a.1.0.now));
    is = λ r ws. refl;
    all = λ r r' ws ws' e. (ap count_in e, ap (λ (w : Written). (tt, (tt, (w.bytes, tt)))) e);
  }

  pub print_refusal_determined : (κs : Lfts 1) (a : Args print-refusal.signature κs) → OneExit 𝓤 print-refusal.ended κs a (λ r ws. written ws.1.0 r) ((print-refusal.clauses 𝓛 mem go κs a).ensures tt)
  print_refusal_determined κs a = record {
    of = writing a.1.0.now 0 (refusal_text a.0);
    is = λ r ws. refl;
    all = λ r r' ws ws' e. (ap count_in e, ap (λ (w : Written). (tt, (w.bytes, tt))) e);
  }

  pub print_recipe_determined : (κs : Lfts 1) (a : Args print-recipe.signature κs) → OneExit 𝓤 print-recipe.ended κs a (λ r ws. written ws.1.0 r) ((print-recipe.clauses 𝓛 mem go κs a).ensures tt)
  print_recipe_determined κs a = record {
    of = writing a.1.0.now 0 (printed_of a.0);
    is = λ r ws. refl;
    all = λ r r' ws ws' e. (ap count_in e, ap (λ (w : Written). (tt, (w.bytes, tt))) e);
  }

  pub answer_determined : (κs : Lfts 2) (a : Args answer.signature κs) → OneExit 𝓤 answer.ended κs a (λ r ws. written ws.1.0 r) ((answer.clauses 𝓛 mem go κs a).ensures tt)
  answer_determined κs a = record {
    of = writing a.1.0.now 0 (answer_of a.0.now);
    is = λ r ws. refl;
    all = λ r r' ws ws' e. (ap count_in e, ap (λ (w : Written). (tt, (w.bytes, tt))) e);
  }

  pub run_text_determined : (κs : Lfts 1) (a : Args run-text.signature κs) → OneExit 𝓤 run-text.ended κs a (λ r ws. r) ((run-text.clauses 𝓛 mem go κs a).ensures tt)
  run_text_determined κs a = record { of = text_run_of a.0.now a.1.0; is = λ r ws. refl; all = λ r r' ws ws' e. (e, refl) }
