-- `recipes::translator::lay` meets its contract: a turn of the loop lays one line behind the others. Assumes nothing.
use Prim.Native.Nat.{◌+◌, ◌≤◌}
use borrow.Author.Rules.{rules}
use Rattle.step.specs.Run.{array_slots}
use Rattle.recipes.proofs.Laying.{laid_none, laid_all, room, size, slotted, laid_more}
use Rattle.recipes.proofs.translator.lay.Goals as goal
use Rattle.recipes.proofs.translator.lay.Goals.{After-steps}

-- the line's slots are among the array's
within : (c : After-steps) → c.loop-k.at + c.steps.result ≤ array_slots
within c = room _ _ _ _ _ _ c.requires.0 c.loop-k.invariant c.loop-k-test.true (rw c.of.ensures at c.steps.ensures.0)

pub loop-k-init : goal.loop-k-init
loop-k-init c = rw c.requires.1 (laid_none _ _)

pub overflow_add-end : goal.overflow_add-end
overflow_add-end c = let h = within (goal.at.overflow_add-end c).After-steps in search rules

pub offset_bounds-steps-at : goal.offset_bounds-steps-at
offset_bounds-steps-at c = let h = within (goal.at.offset_bounds-steps-at c).After-steps in search rules

pub slice_bounds-lay_line-end : goal.slice_bounds-lay_line-end
slice_bounds-lay_line-end c =
    let h = within (goal.at.slice_bounds-lay_line-end c).After-steps in
    let all = size _ _ _ _ _ _ c.requires.0 c.loop-k.invariant c.loop-k-test.true (rw c.of.ensures at c.steps.ensures.0) in
    search rules

pub lay_line-requires : goal.lay_line-requires
lay_line-requires c = slotted _ _ _ _ _ _ c.requires.0 c.loop-k.invariant c.loop-k-test.true (rw c.of.ensures at c.steps.ensures.0)

pub loop-k-preserved : goal.loop-k-preserved
loop-k-preserved c =
    laid_more _ _ _ _ _ _ c.requires.0 c.loop-k.invariant c.loop-k-test.true (rw c.of.ensures at c.steps.ensures.0) _ c.lay_line.ensures

pub returns : goal.returns
returns c = laid_all _ _ _ _ _ c.loop-k.invariant c.loop-k-test.false
