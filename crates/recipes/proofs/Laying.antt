-- Laws of the loops that lay out a line and a listing. Assumes nothing.
use Prim.Native.Nat.{ℕ, zero, suc, ◌+◌, ◌-◌, ◌*◌, ◌/◌, ◌≤◌, ◌<◌}
use mathlib.Core.List.{List, [], ◌∷◌, ◌++◌, map, append-nil, append_assoc}
use mathlib.Core.Path.{◌≡◌, refl, sym, ap, ◌∙◌}
use native.Mathlib.Omega.{arith}
use borrow.Rule.Slice.PartMut.{put_mid, Post-is}
use lib.ListN.{length, take, drop, get_or, set, length-append, length-take, length-drop, drop_of_length-le}
use lib.Seq.{take_at, take_all}
use Rattle.std.proofs.lemmas.Slice.{drop-append-drop}
use Rattle.step.specs.declared.forms.Step.{Step}
use Rattle.step.specs.Run.{array_slots}
use Rattle.step.specs.Lent.{over}
use Rattle.step.specs.Lines.{with_line}
use Rattle.step.proofs.Rows.{over_length, over_next}
use Rattle.recipes.specs.declared.types.Line.{Line}
use Rattle.recipes.specs.Recipe.{unused, Names, Accepted}
use Rattle.recipes.specs.Listing.{line_steps, numbered_of, steps_at, steps_of, blank, blanks}
use Rattle.recipes.specs.Making.{Layable, Slotted, job_of, job_step, StepOfJob}
use Rattle.recipes.proofs.Steps.{line_length, numbered_length, numbered_steps, steps_most, steps_more}
use Rattle.recipes.proofs.Places.{number_fits, line_at, lined_at}

-- ---- a line

-- its steps are among the eight registers, and each has a small number
pub line_spot : (w : ℕ) (l : Line) (slots j : ℕ) → Slotted w l slots → j < slots → StepOfJob (job_of w l) j
line_spot w l slots j s h = (number_fits w _ s.named.source, (number_fits w _ s.named.goal, let a = s.all in omega arith))

-- what is written to its slots
module _ (w : ℕ) (l : Line) (n : ℕ) (old : List Step) (s : Slotted w l (length old)) where
  abbrev lined : List Step
  lined = map (with_line n) (line_steps w l)

  pub line_next : (j : ℕ) (k : Step) → j < length old → k ≡ with_line n (job_step (job_of w l) j) → set (over (take j lined) old) j k ≡ over (take (j + 1) lined) old
  line_next j k h e =
      let one : j + 1 ≡ suc j = omega arith in
      let all = s.all in
      let size = line_length w l in
      let sizes = numbered_length w n l in
      let is : k ≡ get_or lined j blank = e ∙ (ap (with_line n) (line_at w l j (omega arith)) ∙ lined_at n (line_steps w l) j (omega arith)) in
      rw (is, one) (over_next lined old j blank (omega arith) h)

  pub line_all : (j : ℕ) → length old ≤ j → over (take j lined) old ≡ lined
  line_all j h =
      let all = s.all in
      let sizes = numbered_length w n l in
      rw (take_all j lined (omega arith), drop_of_length-le old {i = length lined} (omega arith), append-nil)

-- ---- lines

accepted_at : (w : ℕ) (ls : List Line) (k : ℕ) → Accepted w ls → k < length ls → Names (8 / w) (get_or ls k unused)
accepted_at w [] k a h = absurd (omega arith)
accepted_at w (l ∷ ls) zero a h = a.0
accepted_at w (l ∷ ls) (suc k) a h = accepted_at w ls k a.1 (omega arith)

-- one line more, with its text line
numbered_more : (w n k : ℕ) (ls : List Line) → k < length ls
    → numbered_of w n (take (suc k) ls) ≡ numbered_of w n (take k ls) ++ map (with_line (k + n)) (line_steps w (get_or ls k unused))
unfolding numbered_of
numbered_more w n k [] h = absurd (omega arith)
numbered_more w n zero (l ∷ ls) h = let z : 0 + n ≡ n = omega arith in rw (z, append-nil)
numbered_more w n (suc k) (l ∷ ls) h =
    let later : k + suc n ≡ suc k + n = omega arith in rw (numbered_more w (suc n) k ls (omega arith), later, append_assoc)

-- what is written behind the front of a row
over_part : (xs ys old : List Step) (at end : ℕ) → length xs ≡ at → length (xs ++ ys) ≡ end → at ≤ end → put_mid at (end - at) (over xs old) ys ≡ over (xs ++ ys) old
over_part xs ys old at end p q h =
    rw (take_at xs (drop (length xs) old) at p, Post-is at end (over xs old) h, drop-append-drop (length xs) old xs end (omega arith) refl, q, append_assoc)

-- the steps of the first k lines stand in the slots, before place `at`
pub record Laid (w : ℕ) (ls : List Line) (steps : List Step) (k at : ℕ) : Type 0 where
  pub placed : steps ≡ over (numbered_of w 2 (take k ls)) blanks
  pub reached : at ≡ steps_of w (take k ls)

pub laid_none : (w : ℕ) (ls : List Line) → Laid w ls blanks 0 0
unfolding numbered_of steps_of
laid_none w ls = record { placed = refl; reached = refl }

pub laid_all : (w : ℕ) (ls : List Line) (steps : List Step) (k at : ℕ) → Laid w ls steps k at → length ls ≤ k → steps ≡ over (numbered_of w 2 ls) blanks
laid_all w ls steps k at s h = rw (s.placed, take_all k ls h)

-- the next line, of so many steps
module _ (w : ℕ) (ls : List Line) (steps : List Step) (k at more : ℕ) (a : Layable w ls) (s : Laid w ls steps k at) (h : k < length ls)
    (m : more ≡ steps_at (get_or ls k unused).verb * w)
  where
    reached_next : at + more ≡ steps_of w (take (suc k) ls)
    reached_next = let g = steps_more w k ls h in let r = s.reached in omega arith

    -- has slots
    pub room : at + more ≤ array_slots
    room =
        let most = steps_most w (take (suc k) ls) a.small in
        let some = length-take (suc k) ls in
        let few = a.few in
        let is = reached_next in
        omega arith

    pub size : length steps ≡ array_slots
    size =
        let front = numbered_steps w 2 (take k ls) in
        let r = s.reached in
        let within = room in
        rw s.placed (over_length (numbered_of w 2 (take k ls)) blanks (omega arith))

    pub slotted : Slotted w (get_or ls k unused) (length (take (at + more - at) (drop at steps)))
    slotted =
        let within = room in
        let all = size in
        record { small = a.small; named = accepted_at w ls k a.named h; all = rw (length-take, length-drop) (omega arith) }

    -- and is laid there
    pub laid_more : (new : List Step) → new ≡ map (with_line (k + 2)) (line_steps w (get_or ls k unused)) → Laid w ls (put_mid at (at + more - at) steps new) (k + 1) (at + more)
    laid_more new e =
        let one : k + 1 ≡ suc k = omega arith in
        let ks = numbered_of w 2 (take k ls) in
        let next = map (with_line (k + 2)) (line_steps w (get_or ls k unused)) in
        let front : length ks ≡ at = numbered_steps w 2 (take k ls) ∙ sym s.reached in
        let long : length (ks ++ next) ≡ at + more = let n = numbered_length w (k + 2) (get_or ls k unused) in rw length-append (omega arith) in
        record {
          placed = rw (one, numbered_more w 2 k ls h, s.placed, e) (over_part ks next blanks at (at + more) front long (omega arith));
          reached = rw one reached_next;
        }
