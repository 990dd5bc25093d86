-- Document 01, "Proved sums": all twelve hold, whatever the flags before. Sums 1 to 11 are the crate alu's theorem; sum 12 is computed here, from its
-- text to its last register. Assumes nothing.
use mathlib.Core.Bool.{Bool, true, false, ◌&&◌}
use mathlib.Core.List.{List, [], ◌∷◌, ◌++◌, map}
use lib.Dec.{T}
use Rattle.alu.specs.Bits.{top}
use Rattle.alu.specs.ConditionCodes.{add_flags, sub_flags, neg_flags}
use Rattle.alu.specs.Arith.{sum, difference}
use Rattle.alu.specs.Sums.{on, Row, at_both, always, every}
use Rattle.alu.specs.Sums as Alu
use Rattle.alu.proofs.Sums as Proved
use Rattle.step.specs.Run.{run_of}
use Rattle.text.specs.Text.{ascii, same_bytes, before, after, digit_of}
use Rattle.recipes.specs.Recipe.{line_refusal}
use Rattle.recipes.specs.Reader.{verb_of, line_of, lines_of, width_line, read_of}
use Rattle.recipes.specs.Listing.{rising_rest, line_steps, numbered_of, steps_of, lines_pass, translate_of}
use Rattle.recipes.specs.Sums.{Sum, single, recipe, sums, ran_from, holds_at, holds}

both : (a b : Bool) → T a → T b → T (a && b)
both true b h g = g
both false b h g = absurd h

first : (a b : Bool) → T (a && b) → T a
first true b h = tt
first false b h = absurd h

second : (a b : Bool) → T (a && b) → T b
second true b h = h
second false b h = absurd h

-- rows that hold as the crate alu's, and then sums that hold
every_row : (rows : List Row) (rest : List Sum) → T (every Alu.holds rows) → T (every holds rest) → T (every holds (map single rows ++ rest))
unfolding every holds
every_row [] rest h g = g
every_row (row ∷ rows) rest h g = both (Alu.holds row) _ (first (Alu.holds row) _ h) (every_row rows rest (second (Alu.holds row) _ h) g)

-- 1 is in D0, D2 holds FFFFFFFF: the carry goes on to D3, and the whole is negated
twelfth : T (every holds (recipe (ascii "width\t2\nadd\t0\t1\nneg\t1\n") (1 ∷ 0 ∷ 0xffff_ffff ∷ 0 ∷ []) 0 0xffff_ffff on ∷ []))
unfolding every holds holds_at at_both always ran_from read_of lines_of line_of verb_of digit_of width_line same_bytes before after line_refusal translate_of lines_pass steps_of numbered_of line_steps rising_rest run_of top sum difference add_flags sub_flags neg_flags
twelfth = tt

pub all_sums : T (every holds sums)
unfolding sums
all_sums = every_row Alu.table _ Proved.sums twelfth
