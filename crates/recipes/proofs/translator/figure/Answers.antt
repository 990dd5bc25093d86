-- `recipes::translator::figure` meets its contract: the default state is at rest. Assumes nothing.
use Prim.Native.Nat.{ℕ, ◌<◌}
use mathlib.Core.List.{List}
use mathlib.Core.Path.{◌≡◌, sym, ◌∙◌}
use lib.ListN.{length, get_or, replicate, get_or-replicate}
use lib.Seq.{ext_get_or}
use borrow.Author.Rules.{rules}
use Rattle.recipes.specs.Listing.{figure_of, at_rest}
use Rattle.recipes.proofs.translator.figure.Goals as goal

-- eight registers of 0
zeros : (xs : List ℕ) → length xs ≡ 8 → ((i d : ℕ) → i < 8 → get_or xs i d ≡ 0) → xs ≡ replicate 8 0
zeros xs n z = ext_get_or 0 xs (replicate 8 0) n (λ i h. let k : i < 8 = rw n at h in z i 0 k ∙ sym (get_or-replicate {A = ℕ} 8 i 0 0 k))

pub returns : goal.returns
unfolding figure_of
returns c =
    let rest = c.default.ensures in
    let d : c.default.result.d ≡ replicate 8 0 = zeros _ rest.0.long rest.0.at in
    let a : c.default.result.a ≡ replicate 8 0 = zeros _ rest.1.0.long rest.1.0.at in
    let is : c.default.result ≡ at_rest = search rules in
    search rules
