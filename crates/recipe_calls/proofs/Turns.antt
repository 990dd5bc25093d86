-- Laws of the loops that copy eight words, one by one. Assumes nothing.
--     copied   a turn of a loop that copies a part of a row into an array
--     pasted   a turn of one that copies an array into a row
use Prim.Native.Nat.{ℕ, suc, ◌+◌, ◌<◌}
use mathlib.Core.Path.{◌≡◌, ap, ◌∙◌}
use mathlib.Core.List.{List}
use native.Mathlib.Omega.{arith}
use lib.ListN.{length, take, drop, get_or, set, length-drop}
use lib.Seq.{take-suc, take-suc-set, get_or-drop, paste, paste-suc}

module _ {A : Type 0} where
  pub copied :
      (rs row : List A) (at j : ℕ) (d : A) → take j rs ≡ take j (drop at row) → j < length rs → at + j < length row
      → take (j + 1) (set rs j (get_or row (at + j) d)) ≡ take (j + 1) (drop at row)
  copied rs row at j d e h k =
      let next : j + 1 ≡ suc j = omega arith in
      rw next
      (take-suc-set rs j (get_or row (at + j) d) h
      ∙ rw (e, ← get_or-drop at row j d, ← take-suc (drop at row) j d (omega (arith, length-drop at row))))

  pub pasted :
      (old row words : List A) (at j : ℕ) (d : A) → row ≡ paste old at words j → j < length words → at + j < length old
      → set row (at + j) (get_or words j d) ≡ paste old at words (j + 1)
  pasted old row words at j d e h k =
      let next : suc j ≡ j + 1 = omega arith in
      ap (λ (xs : List A). set xs (at + j) (get_or words j d)) e ∙ (paste-suc old at words j d k h ∙ ap (paste old at words) next)
