-- The loop of `marks::marked_from`: `Looking` is its invariant, up to the first code that is marked.
use Rattle.marks.proofs.Loops.{Looking}
use Rattle.marks.proofs.marked_from.Given as goal

abbrev pub invariant-loop-i : goal.invariant-loop-i
invariant-loop-i l = Looking l.marks l.ys l.x l.i
