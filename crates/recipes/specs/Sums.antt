-- Document 01, "Proved sums", all twelve as one table: sums 1 to 11 are the rows of the crate alu, sum 12 is a recipe that is read, translated and run.
-- `proofs/Sums.antt` has the one statement, that every sum holds. Assumes nothing.
use Rattle.std.specs.Prelude.{ℕ, Bool, false, ◌&&◌, Result, Ok, Err, List, [], ◌∷◌, ◌++◌, map, eqb, get_or, take, replicate}
use Rattle.alu.specs.declared.types.Flags.{Flags}
use Rattle.alu.specs.Sums.{Said, on, meets, Row, always}
use Rattle.alu.specs.Sums as Alu
use Rattle.step.specs.declared.registers.State.{State}
use Rattle.step.specs.declared.runs.Ran.{Ran}
use Rattle.step.specs.Perform.{perform_of}
use Rattle.step.specs.Run.{run_of}
use Rattle.text.specs.Text.{ascii}
use Rattle.recipes.specs.declared.types.Recipe.{Recipe}
use Rattle.recipes.specs.declared.types.Refused.{Refused}
use Rattle.recipes.specs.declared.types.Listing.{Listing}
use Rattle.recipes.specs.Reader.{read_of}
use Rattle.recipes.specs.Listing.{steps_max, array_of}

-- a sum: of one operation; or a recipe text, the data registers D0 to D3 before (the others are 0), and D2, D3 and X after
pub data Sum : Type 0 where
  single : Row → Sum
  recipe : (text : List ℕ) → (before : List ℕ) → (d2 d3 : ℕ) → (x : Said) → Sum

unfoldable pub sums : List Sum
sums =
    map single Alu.table ++  -- 1 to 11
    recipe (ascii "width\t2\nadd\t0\t1\nneg\t1\n") (1 ∷ 0 ∷ 0xffff_ffff ∷ 0 ∷ []) 0 0xffff_ffff on ∷ []  -- 12

-- a listing, and a recipe, run whole from the state s
abbrev pub listing_ran : Result Listing Refused → State → Result Ran Refused
listing_ran (Ok l) s = Ok (run_of perform_of (take l.count l.steps) s 0 steps_max)
listing_ran (Err k) s = Err k

abbrev pub recipe_ran : Result Recipe Refused → State → Result Ran Refused
recipe_ran (Ok r) s = listing_ran (array_of r) s
recipe_ran (Err k) s = Err k

-- a text run whole, from the state s
unfoldable pub ran_from : (text : List ℕ) → State → Result Ran Refused
ran_from text s = recipe_ran (read_of text) s

abbrev pub lands : Result Ran Refused → (d2 d3 : ℕ) → (x : Said) → Flags → Bool
lands (Ok r) d2 d3 x f = eqb (get_or r.state.d 2 0) d2 && eqb (get_or r.state.d 3 0) d3 && meets x f.x r.state.flags.x
lands (Err k) d2 d3 x f = false

unfoldable pub holds_at : (text before : List ℕ) → (d2 d3 : ℕ) → (x : Said) → Flags → Bool
holds_at text before d2 d3 x f = lands (ran_from text (record { d = before ++ replicate 4 0; a = replicate 8 0; flags = f })) d2 d3 x f

-- whatever the flags before
unfoldable pub holds : Sum → Bool
holds (single row) = Alu.holds row
holds (recipe text before d2 d3 x) = always (holds_at text before d2 d3 x)
