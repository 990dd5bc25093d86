-- For walks by hand of a function's code. Assumes nothing.
use Rattle.std.proofs.Common.{ℕ, zero, suc}
use package.mir.Syntax.{Body, skip, seq, assign, block, loop, cond, switch, exit, return, call, unreachable, call_v, lend_static}

-- what follows the first statement of a sequence
abbrev pub after_first : Body → Body
after_first skip = skip
after_first (seq a b) = b
after_first (assign p r) = skip
after_first (block b) = skip
after_first (loop b) = skip
after_first (cond x a b) = skip
after_first (switch x s) = skip
after_first (exit k) = skip
after_first return = skip
after_first (call f xs p) = skip
after_first unreachable = skip
after_first (call_v f s xs p) = skip
after_first (lend_static p t c) = skip

-- what follows the first k
abbrev pub rest : (k : ℕ) → Body → Body
rest zero b = b
rest (suc k) b = rest k (after_first b)
