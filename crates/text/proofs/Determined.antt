-- Two answers that satisfy the contract of a public function of this crate are equal, and so is all that stands behind the references that it was lent.
--     OneExit          what is shown of a function: at exit its contract says one equation, of the whole answer; and two whole answers are equal only
--                      if the results are, and all that stands behind the references that may be written. What those are the function's signature
--                      says (`Lasts`), so that a row can leave none out
--     same_exit        so two answers that satisfy the contract are equal, and what they leave behind every such reference
--     .. -determined   so each of them, by the contract that stands in its code. tools/contracts looks that none is left out
-- Assumes nothing.
use Rattle.std.proofs.Common.{◌≡◌, [], ◌∷◌, length, sym, refl, ap, ◌∙◌}
use seplogic.Ra.Ura.{Ura}
use base.Logic.{SProp}
use prog.Memory.{Memory}
use prog.Routine.{Routine}
use types.Logic.{Logic}
use contract.Monad.{Fun, fact}
use contract.Lifetimes.{Lfts}
use denote.Triple.Entry.{Args, Res}
use denote.Triple.Clauses.{Ended, Lasts, AtExit, at_exit}
use Rattle.text.specs.Text.{before, byte_digit, hex_digit, digit_of, worth_of, decimal_of, decimal_read, hex_of, hex_read}
use Rattle.text.specs.declared.writers.Writer.{Writer}
use Rattle.text.specs.Wrote.{wrote}
use Rattle.text.specs.contracts.parts.first as first
use Rattle.text.specs.contracts.numbers.digit as digit
use Rattle.text.specs.contracts.numbers.hex_digit as hex-digit
use Rattle.text.specs.contracts.numbers.digit_of as digit-of
use Rattle.text.specs.contracts.numbers.worth as worth
use Rattle.text.specs.contracts.numbers.decimal_of as decimal-of
use Rattle.text.specs.contracts.numbers.hex as hex
use Rattle.text.specs.contracts.numbers.hex_of as hex-of
use Rattle.text.specs.contracts.writers.Writer.byte as byte
use Rattle.text.specs.contracts.writers.Writer.bytes as bytes
use Rattle.text.specs.contracts.writers.Writer.decimal as decimal
use Rattle.text.specs.contracts.writers.Writer.number as number
use Rattle.text.specs.contracts.writers.Writer.hex as write-hex

-- `whole r ws`: of the result r and of the last values ws behind all references that the function may write through
module _ {M : Type 1} (𝓤 : Ura M) (T : Ended) (κs : Lfts T.signature.lifetimes) (a : Args T.signature κs) {Whole : Type 0}
    (whole : Res T.signature κs → Lasts T κs a → Whole)
  where
    pub record OneExit (says : Res T.signature κs → AtExit T κs → SProp 𝓤) : Type 2 where
      pub of : Whole
      pub is : (r : Res T.signature κs) (ws : Lasts T κs a) → says r (at_exit T κs a ws) ≡ fact 𝓤 (whole r ws ≡ of)
      pub all : (r r' : Res T.signature κs) (ws ws' : Lasts T κs a) → whole r ws ≡ whole r' ws' → (r ≡ r') × (ws ≡ ws')

    pub same_exit : {says : Res T.signature κs → AtExit T κs → SProp 𝓤} (o : OneExit says) (r r' : Res T.signature κs) (ws ws' : Lasts T κs a)
        → whole r ws ≡ o.of → whole r' ws' ≡ o.of → (r ≡ r') × (ws ≡ ws')
    same_exit o r r' ws ws' p q = o.all r r' ws ws' (p ∙ sym q)

module _ {M : Type 1} {𝓤 : Ura M} (𝓛 : Logic 𝓤) (mem : Memory → SProp 𝓤) (go : Routine → Fun 𝓤) where
  pub first_determined : (κs : Lfts 1) (a : Args first.signature κs) → OneExit 𝓤 first.ended κs a (λ r ws. r) ((first.clauses 𝓛 mem go κs a).ensures tt)
  first_determined κs a = record { of = length (before a.1.0 a.0.now); is = λ r ws. refl; all = λ r r' ws ws' e. (e, refl) }

  pub digit_determined : (κs : Lfts 0) (a : Args digit.signature κs) → OneExit 𝓤 digit.ended κs a (λ r ws. r) ((digit.clauses 𝓛 mem go κs a).ensures tt)
  digit_determined κs a = record { of = byte_digit a.0; is = λ r ws. refl; all = λ r r' ws ws' e. (e, refl) }

  pub hex_digit_determined : (κs : Lfts 0) (a : Args hex-digit.signature κs) → OneExit 𝓤 hex-digit.ended κs a (λ r ws. r) ((hex-digit.clauses 𝓛 mem go κs a).ensures tt)
  hex_digit_determined κs a = record { of = hex_digit a.0; is = λ r ws. refl; all = λ r r' ws ws' e. (e, refl) }

  pub digit_of_determined : (κs : Lfts 1) (a : Args digit-of.signature κs) → OneExit 𝓤 digit-of.ended κs a (λ r ws. r) ((digit-of.clauses 𝓛 mem go κs a).ensures tt)
  digit_of_determined κs a = record { of = digit_of a.0.now; is = λ r ws. refl; all = λ r r' ws ws' e. (e, refl) }

  pub worth_determined : (κs : Lfts 0) (a : Args worth.signature κs) → OneExit 𝓤 worth.ended κs a (λ r ws. r) ((worth.clauses 𝓛 mem go κs a).ensures tt)
  worth_determined κs a = record { of = worth_of a.0; is = λ r ws. refl; all = λ r r' ws ws' e. (e, refl) }

  pub decimal_of_determined : (κs : Lfts 1) (a : Args decimal-of.signature κs) → OneExit 𝓤 decimal-of.ended κs a (λ r ws. r) ((decimal-of.clauses 𝓛 mem go κs a).ensures tt)
  decimal_of_determined κs a = record { of = decimal_read a.0.now; is = λ r ws. refl; all = λ r r' ws ws' e. (e, refl) }

  pub hex_determined : (κs : Lfts 0) (a : Args hex.signature κs) → OneExit 𝓤 hex.ended κs a (λ r ws. r) ((hex.clauses 𝓛 mem go κs a).ensures tt)
  hex_determined κs a = record { of = hex_of a.0; is = λ r ws. refl; all = λ r r' ws ws' e. (e, refl) }

  pub hex_of_determined : (κs : Lfts 1) (a : Args hex-of.signature κs) → OneExit 𝓤 hex-of.ended κs a (λ r ws. r) ((hex-of.clauses 𝓛 mem go κs a).ensures tt)
  hex_of_determined κs a = record { of = hex_read a.0.now; is = λ r ws. refl; all = λ r r' ws ws' e. (e, refl) }

  pub byte_determined : (κs : Lfts 2) (a : Args byte.signature κs) → OneExit 𝓤 byte.ended κs a (λ r ws. ws.0) ((byte.clauses 𝓛 mem go κs a).ensures tt)
  byte_determined κs a = record { of = wrote a.0.now (a.1.0 ∷ []); is = λ r ws. refl; all = λ r r' ws ws' e. (refl, ap (λ (w : Writer). (w, (tt, tt))) e) }

  pub bytes_determined : (κs : Lfts 3) (a : Args bytes.signature κs) → OneExit 𝓤 bytes.ended κs a (λ r ws. ws.0) ((bytes.clauses 𝓛 mem go κs a).ensures tt)
  bytes_determined κs a = record { of = wrote a.0.now a.1.0.now; is = λ r ws. refl; all = λ r r' ws ws' e. (refl, ap (λ (w : Writer). (w, (tt, tt))) e) }

  pub decimal_determined : (κs : Lfts 2) (a : Args decimal.signature κs) → OneExit 𝓤 decimal.ended κs a (λ r ws. ws.0) ((decimal.clauses 𝓛 mem go κs a).ensures tt)
  decimal_determined κs a = record { of = wrote a.0.now (decimal_of a.1.0); is = λ r ws. refl; all = λ r r' ws ws' e. (refl, ap (λ (w : Writer). (w, (tt, tt))) e) }

  pub number_determined : (κs : Lfts 2) (a : Args number.signature κs) → OneExit 𝓤 number.ended κs a (λ r ws. ws.0) ((number.clauses 𝓛 mem go κs a).ensures tt)
  number_determined κs a = record { of = wrote a.0.now (a.1.0 ∷ decimal_of a.1.1.0); is = λ r ws. refl; all = λ r r' ws ws' e. (refl, ap (λ (w : Writer). (w, (tt, (tt, tt)))) e) }

  pub write_hex_determined : (κs : Lfts 2) (a : Args write-hex.signature κs) → OneExit 𝓤 write-hex.ended κs a (λ r ws. ws.0) ((write-hex.clauses 𝓛 mem go κs a).ensures tt)
  write_hex_determined κs a = record { of = wrote a.0.now (hex_of a.1.0); is = λ r ws. refl; all = λ r r' ws ws' e. (refl, ap (λ (w : Writer). (w, (tt, tt))) e) }
