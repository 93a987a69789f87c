-- The loop of `marks::mark`: `Marking` is its invariant, over zeros throughout.
use Rattle.marks.proofs.Loops.{Marking}
use Rattle.marks.proofs.mark.Given as goal

abbrev pub invariant-loop-x : goal.invariant-loop-x
invariant-loop-x l = Marking l.xs l.marks l.x-index
