-- `text::parts::first` meets its contract: `position` finds the first place at which `b` stands. Assumes nothing.
use Rattle.std.proofs.Common.{◌∙◌, ap, eqb, length, rules}
use Rattle.std.specs.Option.{unwrap_or}
use Rattle.std.proofs.lemmas.Iterator.{YieldsList-from_slice}
use Rattle.std.proofs.lemmas.Iterator.Search.{position_from_yields_List}
use Rattle.text.proofs.Texts.{first_found}
use Rattle.text.proofs.parts.first.Goals as goal

pub returns : goal.returns
returns c =
    let b = c.args.b in
    let s = c.args.s.now in
    let found = position_from_yields_List (λ x. eqb x b) _ _ c.position.result c.position.ensures.ran (YieldsList-from_slice s cc) (λ x r q call. search rules) in
    c.unwrap_or.ensures ∙ (ap (λ r. unwrap_or r (length s)) found ∙ first_found b s)
