use Rattle.recipes.proofs.Judging.{Passed}
use Rattle.recipes.proofs.translator.judge_lines.Given as goal

abbrev pub invariant-loop-k : goal.invariant-loop-k
invariant-loop-k l = Passed l.width l.lines l.steps l.k
