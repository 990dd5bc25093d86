-- A turn of the loop writes one byte behind the others.
use Rattle.std.proofs.Common.{◌≡◌, take}
use Rattle.text.specs.Wrote.{wrote}
use Rattle.text.proofs.writers.Writer.bytes.Given as goal

abbrev pub invariant-loop-b : goal.invariant-loop-b
invariant-loop-b l = l.self ≡ wrote l.initial.self (take l.b-index l.text)
