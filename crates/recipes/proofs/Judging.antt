-- Laws of the translator's loop over the lines: one for each way that a turn goes. Assumes nothing.
use Prim.Native.Nat.{ℕ, suc, ◌+◌, ◌*◌, ◌/◌, ◌≤◌, ◌<◌}
use mathlib.Core.List.{List}
use mathlib.Core.Path.{◌≡◌, refl, sym, ◌∙◌}
use native.Mathlib.Omega.{arith}
use lib.ListN.{length, take, drop, get_or, drop_of_length-le}
use lib.Seq.{drop-cons, take_all}
use Rattle.std.specs.Prelude.{Ok, Err}
use Rattle.recipes.specs.declared.types.Line.{Line}
use Rattle.recipes.specs.declared.types.Refusal.{Refusal}
use Rattle.recipes.specs.declared.types.Refused.{Refused}
use Rattle.recipes.specs.Recipe.{at_line, unused, line_refusal}
use Rattle.recipes.specs.Listing.{or_refused, lines_pass, steps_at, steps_of}
use Rattle.recipes.specs.Making.{judge_lines}
use Rattle.recipes.proofs.Steps.{steps_more}

module _ {R : Type 0} (refuse : Refused → R) (n : ℕ) where
  -- the lines from k on
  pass_on : (line : ℕ) (ls : List Line) (k : ℕ) (go : R) → k < length ls
      → lines_pass refuse n line (drop k ls) go ≡ or_refused refuse (line_refusal n (get_or ls k unused)) line (lines_pass refuse n (suc line) (drop (suc k) ls) go)
  unfolding lines_pass
  pass_on line ls k go h = rw (drop-cons ls k unused h)

  pass_done : (line : ℕ) (ls : List Line) (k : ℕ) (go : R) → length ls ≤ k → lines_pass refuse n line (drop k ls) go ≡ go
  unfolding lines_pass
  pass_done line ls k go h = rw (drop_of_length-le ls h)

-- the first k lines are passed and counted
pub record Passed (w : ℕ) (ls : List Line) (steps k : ℕ) : Type 0 where
  pub counted : steps ≡ steps_of w (take k ls)
  pub few : steps ≤ 8 * k
  pub rest : judge_lines w ls ≡ lines_pass Err (8 / w) (k + 2) (drop k ls) (Ok (steps_of w ls))

pub passed_none : (w : ℕ) (ls : List Line) → Passed w ls 0 0
unfolding steps_of
passed_none w ls = record { counted = refl; few = omega arith; rest = refl }

module _ (w : ℕ) (ls : List Line) (steps k : ℕ) (s : Passed w ls steps k) where
  -- the next line
  turn : k < length ls → judge_lines w ls
      ≡ or_refused Err (line_refusal (8 / w) (get_or ls k unused)) (k + 2) (lines_pass Err (8 / w) (suc (k + 2)) (drop (suc k) ls) (Ok (steps_of w ls)))
  turn h = s.rest ∙ pass_on Err (8 / w) (k + 2) ls k (Ok (steps_of w ls)) h

  pub passed_slip : (r : Refusal) → k < length ls → line_refusal (8 / w) (get_or ls k unused) ≡ Err r → Err (at_line r (k + 2)) ≡ judge_lines w ls
  passed_slip r h e = sym (turn h ∙ rw e)

  pub passed_more : (u : Unit {0}) (more : ℕ) → k < length ls → line_refusal (8 / w) (get_or ls k unused) ≡ Ok u → more ≡ steps_at (get_or ls k unused).verb * w → more ≤ 8
      → Passed w ls (steps + more) (k + 1)
  passed_more u more h e is le =
      let a : k + 1 ≡ suc k = omega arith in
      let b : suc (k + 2) ≡ k + 1 + 2 = omega arith in
      let c = s.counted in
      let g = steps_more w k ls h in
      record { counted = rw (a, g) (omega arith); few = let d = s.few in omega arith; rest = turn h ∙ rw (e, b, a) }

  pub passed_all : length ls ≤ k → Ok steps ≡ judge_lines w ls
  passed_all h =
      let c : steps ≡ steps_of w ls = rw take_all at s.counted in
      sym (s.rest ∙ (pass_done Err (8 / w) (k + 2) ls k (Ok (steps_of w ls)) h ∙ rw c))
