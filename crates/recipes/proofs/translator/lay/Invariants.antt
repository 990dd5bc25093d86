use Rattle.recipes.proofs.Laying.{Laid}
use Rattle.recipes.proofs.translator.lay.Given as goal

abbrev pub invariant-loop-k : goal.invariant-loop-k
invariant-loop-k l = Laid l.width l.lines l.steps l.k l.at
