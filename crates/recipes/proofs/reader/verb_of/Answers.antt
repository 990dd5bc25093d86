-- `recipes::reader::verb_of` meets its contract: the check finds all arms but those of five bytes that are a verb, and two of no verb, of a `c` with a
-- second byte of none. Assumes nothing.
use mathlib.Core.Path.{sym}
use native.Mathlib.Omega.{arith}
use Rattle.recipes.proofs.Words.{clear_word, halve_word, four_word_c, five_word_c}
use Rattle.recipes.proofs.reader.verb_of.Goals as goal

pub returns-in-clear : goal.returns-in-clear
returns-in-clear c = sym (clear_word _ (omega arith) (omega arith) (omega arith) (omega arith) (omega arith) (omega arith))

pub returns-in-halve : goal.returns-in-halve
returns-in-halve c = sym (halve_word _ (omega arith) (omega arith) (omega arith) (omega arith) (omega arith) (omega arith))

pub returns-in_default-14 : goal.returns-in_default-14
returns-in_default-14 c = sym (four_word_c _ (omega arith) (omega arith) (λ e. omega arith))

pub returns-in_default-22 : goal.returns-in_default-22
returns-in_default-22 c = sym (five_word_c _ (omega arith) (omega arith) (λ e. omega arith))
