-- The loop of `pen::numbers_at`: a number more behind those that are written.
use Rattle.pen.proofs.Numbers.{Numbered}
use Rattle.pen.proofs.numbers_at.Given as goal

abbrev pub invariant-loop-i : goal.invariant-loop-i
invariant-loop-i l = Numbered l.numbers l.initial.rest l.rest l.at l.to l.i
