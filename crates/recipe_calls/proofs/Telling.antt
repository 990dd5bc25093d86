-- Laws of what is told of a translation. Assumes nothing.
--     unread, unlisted   a text that the reader refuses, and one that the translator refuses
--     fits, short        a translation made in an array, handed to a row that has room for it, and to one that has not: that into as many slots
use Prim.Native.Nat.{◌≤◌, ◌<◌, ℕ}
use mathlib.Core.Path.{◌≡◌}
use mathlib.Core.List.{List, map}
use borrow.Author.Tests.{le-ltb, lt-ltb}
use lib.ListN.{length, take, drop, replicate, length-replicate}
use lib.Seq.{take_at, length-take-le}
use Rattle.std.specs.Prelude.{Ok, Err}
use Rattle.step.specs.declared.forms.Step.{Step}
use Rattle.step.specs.Lent.{over}
use Rattle.recipes.specs.declared.types.Recipe.{Recipe}
use Rattle.recipes.specs.declared.types.Refusal.TheVariants.{NoSpace}
use Rattle.recipes.specs.declared.types.Refused.{Refused}
use Rattle.recipes.specs.declared.types.Listing.{Listing}
use Rattle.recipes.specs.Recipe.{at_line}
use Rattle.recipes.specs.Reader.{read_of}
use Rattle.recipes.specs.Listing.{blank, array_of}
use Rattle.recipes.proofs.Settling.{copied, blanks_hold, translate_lent}
use Rattle.recipe_calls.specs.Words.{step_word}
use Rattle.recipe_calls.specs.Calls.{row_left, translation_told, listed_in, translate_words}

-- as many slots as a row has
abbrev slots : List ℕ → List Step
slots row = replicate (length row) blank

pub unread : (text row : List ℕ) (k : Refused) → read_of text ≡ Err k → row_left row (translation_told (Err k)) ≡ translate_words text row
unread text row k e = rw e

-- a text that is read, by what the translator makes of it in an array
by_array : (text row : List ℕ) (r : Recipe) → read_of text ≡ Ok r → listed_in row (copied (array_of r) (slots row)) ≡ translate_words text row
by_array text row r e = rw (e, translate_lent r (slots row))

module _ (text row : List ℕ) (r : Recipe) (read : read_of text ≡ Ok r) where
  pub unlisted : (k : Refused) → array_of r ≡ Err k → row_left row (translation_told (Err k)) ≡ translate_words text row
  unlisted k e = rw e at (by_array text row r read)

  module _ (l : Listing) (made : array_of r ≡ Ok l) where
    pub short : length row < l.count → row_left row (translation_told (Err (at_line NoSpace 0))) ≡ translate_words text row
    short room =
        let few : length (slots row) < l.count = rw (length-replicate) room in
        rw (made, lt-ltb (length (slots row)) l.count few) at (by_array text row r read)

    pub fits : l.count ≤ length row → row_left (over (map step_word (take l.count l.steps)) row) (translation_told (Ok l.count)) ≡ translate_words text row
    fits room =
        let enough : l.count ≤ length (slots row) = rw (length-replicate) room in
        let held = length-take-le l.count l.steps (blanks_hold r l made) in
        rw (made, le-ltb (length (slots row)) l.count enough, take_at (take l.count l.steps) (drop l.count (slots row)) l.count held) at (by_array text row r read)
