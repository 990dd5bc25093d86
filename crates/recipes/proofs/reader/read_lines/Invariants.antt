use Prim.Native.Nat.{ℕ, ◌≤◌}
use mathlib.Core.Path.{◌≡◌}
use mathlib.Core.List.{List, []}
use lib.ListN.{length}
use Rattle.recipes.specs.declared.types.Line.{Line}
use Rattle.recipes.specs.Reader.{padded, lines_of}
use Rattle.text.specs.Text.{before, after}
use Rattle.recipes.specs.Recipe.{lines_max}
use Rattle.recipes.proofs.reader.read_lines.Given as goal

-- the lines ls are read and stand in the padded, and reading goes on with what is left of the text
pub record SoFar (width : ℕ) (text : List ℕ) (lines : List Line) (count : ℕ) (left : List ℕ) : Type 0 where
  pub ls : List Line
  pub many : count ≡ length ls
  pub within : count ≤ lines_max
  pub short : length left ≤ length text
  pub stored : lines ≡ padded ls
  pub rest : lines_of width [] (before 10 text) (after 10 text) ≡ lines_of width ls (before 10 left) (after 10 left)

abbrev pub invariant-loop-left : goal.invariant-loop-left
invariant-loop-left l = SoFar l.width l.text l.lines l.count l.left

abbrev pub decreases-loop-left : goal.decreases-loop-left
decreases-loop-left l = length l.left
