use Rattle.step.specs.Rack.{boxes_of}
use Rattle.recipe_calls.specs.Words.{first_of}
use Rattle.recipe_calls.proofs.Racking.{After}
use Rattle.recipe_calls.proofs.rack_run.Given as goal

abbrev pub invariant-loop-i : goal.invariant-loop-i
invariant-loop-i l = After (first_of l.listing) (boxes_of l.plan) l.initial.d l.initial.a l.initial.flags l.starts l.budget l.initial.answers l.d l.a l.flags l.answers l.i
