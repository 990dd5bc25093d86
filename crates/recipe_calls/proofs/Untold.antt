-- What is told of the column of a text that is read: 0, by `recipe_translate` in place 3 and by `recipe_run` in place 5. That of one that is refused is
-- `column_points` of recipes. Assumes nothing.
use Prim.Native.Nat.{ℕ, ◌≤◌}
use mathlib.Core.List.{List}
use mathlib.Core.Path.{◌≡◌, refl, sym, ap}
use native.Mathlib.Decide.{dec_le}
use native.Mathlib.Omega.{arith}
use lib.ListN.{length, get_or}
use Rattle.std.specs.Prelude.{Ok}
use Rattle.recipes.specs.declared.types.Recipe.{Recipe}
use Rattle.recipes.specs.declared.types.Listing.{Listing}
use Rattle.recipes.specs.Reader.{read_of}
use Rattle.recipes.specs.Demand.{text_run_of}
use Rattle.recipes.specs.Listing.{blanks, listing_in, array_of}
use Rattle.recipes.proofs.Accepting.{width_is}
use Rattle.recipes.proofs.Agreeing.{read_sound, read_translates}
use Rattle.recipes.proofs.Settling.{blanks_fit}
use Rattle.recipe_calls.specs.Calls.{RowLeft, translate_words, recipe_run_words}
use Rattle.recipe_calls.proofs.Telling.{fits, short}

-- the column that `recipe_translate` tells
abbrev pub column_of : RowLeft → ℕ
column_of left = get_or left.told 3 0

module _ (text : List ℕ) (r : Recipe) (read : read_of text ≡ Ok r) where
  by_room : (row : List ℕ) (l : Listing) → array_of r ≡ Ok l → Dec (l.count ≤ length row) → column_of (translate_words text row) ≡ 0
  by_room row l made (yes room) = ap column_of (sym (fits text row r read l made room))
  by_room row l made (no room) = ap column_of (sym (short text row r read l made (omega arith)))

  pub column_untold : (row : List ℕ) → column_of (translate_words text row) ≡ 0
  column_untold row =
      let good = read_sound text r read in
      let made = ap listing_in (read_translates text r blanks read (blanks_fit r (width_is r.width good.width).1 good.few)) in
      by_room row _ made (dec_le _ (length row))

  pub column_of_run : (d a : List ℕ) (flags : ℕ) → get_or (recipe_run_words text d a flags).told 5 0 ≡ 0
  unfolding text_run_of
  column_of_run d a flags = rw read refl
