-- Laws of the printed listing, one for each turn of a printer's loop. Assumes nothing.
use Prim.Native.Nat.{ℕ, suc, ◌+◌, ◌<◌}
use mathlib.Core.List.{List, [], ◌∷◌, ◌++◌, append-nil, append_assoc}
use mathlib.Core.Path.{◌≡◌, refl}
use Rattle.std.specs.List.{sum_by}
use Rattle.std.proofs.lemmas.List.Sums.{sum_by-cons}
use native.Mathlib.Numerals.{add-one}
use native.Mathlib.Omega.{arith}
use lib.ListN.{length, take, get_or}
use lib.Seq.{take-suc, length-take-le}
use Rattle.alu.specs.declared.types.Size.TheVariants.{Byte}
use Rattle.step.specs.declared.forms.TwoOp.TheVariants.{Add}
use Rattle.step.specs.declared.forms.Form.TheVariants.{Two}
use Rattle.step.specs.declared.forms.Step.{Step}
use Rattle.recipes.specs.Listing.{figure_of, clocks_of}
use Rattle.recipes.specs.Printer.{step_text, steps_text}

-- what a loop's place past the end of its array would hold
abbrev pub nop : Step
nop = record { size = Byte; form = Two Add (record { 0 = 0 }) (record { 0 = 0 }); line = 0 }

steps_snoc : (p : ℕ) (ks : List Step) (k : Step) → steps_text p (ks ++ (k ∷ [])) ≡ steps_text p ks ++ step_text (p + length ks) k
unfolding steps_text
steps_snoc p [] k = let e : p ≡ p + 0 = omega arith in rw (append-nil, ← e)
steps_snoc p (m ∷ ks) k = let e : suc p + length ks ≡ p + suc (length ks) = omega arith in rw (steps_snoc (suc p) ks k, append_assoc, e)

-- one more line
pub steps_next : (l : List Step) (k : ℕ) → k < length l → steps_text 0 (take (k + 1) l) ≡ steps_text 0 (take k l) ++ step_text k (get_or l k nop)
steps_next l k h =
    let m = length-take-le k l (omega arith) in
    let e : 0 + length (take k l) ≡ k = omega arith in
    rw (add-one, take-suc l k nop h, steps_snoc 0 (take k l) (get_or l k nop), e)

-- std's sum of the figures
pub figures_sum : (ks : List Step) → sum_by figure_of ks ≡ clocks_of ks
unfolding clocks_of
figures_sum [] = refl
figures_sum (k ∷ ks) = let e = figures_sum ks in rw (sum_by-cons figure_of k ks, e)
