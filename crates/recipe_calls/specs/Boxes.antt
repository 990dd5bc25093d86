-- Terms of private contracts alone: one box of a rack in rows of numbers. Assumes nothing.
use Rattle.std.specs.Prelude.{ℕ, ◌+◌, ◌*◌, ◌≡◌, List, ◌++◌, length, take, drop, get_or, set}
use Rattle.alu.specs.ConditionCodes.{ccr_of}
use Rattle.step.specs.declared.registers.State.{State}
use Rattle.step.specs.declared.runs.Ran.{Ran}
use Rattle.recipe_calls.specs.Calls.{state_of}

-- the words of box i
abbrev pub eight_at : (i : ℕ) → List ℕ → List ℕ
eight_at i row = take 8 (drop (8 * i) row)

-- the register set of box i
abbrev pub box_state : (i : ℕ) → (d a flags : List ℕ) → State
box_state i d a flags = state_of (eight_at i d) (eight_at i a) (get_or flags i 0)

-- eight words written for box i (the library's `paste`)
abbrev pub eight_put : {A : Type 0} → (i : ℕ) → (words row : List A) → List A
eight_put i words row = take (8 * i) row ++ take 8 words ++ drop (8 * i + 8) row

-- what its run leaves has been written to the rows
pub record BoxPut (i : ℕ) (r : Ran) (d a flags d' a' flags' : List ℕ) : Type 0 where
  pub is_d : d' ≡ eight_put i r.state.d d
  pub is_a : a' ≡ eight_put i r.state.a a
  pub is_flags : flags' ≡ set flags i (ccr_of r.state.flags)
  pub many_d : length r.state.d ≡ 8
  pub many_a : length r.state.a ≡ 8
