-- `words_end` meets its contract: no window of the words begins behind their end. Assumes nothing.
use Rattle.std.proofs.Common.{ℕ, ◌<◌, ◌≤◌, length, Option, Some, None, sym, arith, le_refl, length-take-le}
use Rattle.std.specs.Option.{IfSome, unwrap_or}
use Rattle.text.proofs.Texts.{first_by}
use Rattle.input.proofs.words_end.Goals as goal

below : (r : Option ℕ) (m end : ℕ) → m ≤ end → IfSome r (λ i. i < m) → unwrap_or r end ≤ end
below None m end h b = le_refl end
below (Some i) m end h b = omega arith

pub slice_bounds-windows-end : goal.slice_bounds-windows-end
slice_bounds-windows-end c = (first_by c.first-end.ensures).counted

pub returns : goal.returns
returns c =
    let f = first_by c.first-end.ensures in
    let counted = f.counted in
    let front : c.unwrap_or.result ≤ c.first-end.result = rw c.unwrap_or.ensures (below c.position.result _ c.first-end.result (omega arith) c.position.ensures.bound) in
    let within : c.unwrap_or.result ≤ length c.args.text.now = let w = f.within in omega arith in
    (within, sym (length-take-le c.unwrap_or.result c.args.text.now within))
