-- The loop of `marks::count`: `Counting` is its invariant.
use Rattle.marks.proofs.Loops.{Counting}
use Rattle.marks.proofs.count.Given as goal

abbrev pub invariant-loop-y : goal.invariant-loop-y
invariant-loop-y l = Counting l.marks l.ys l.n l.y-index
