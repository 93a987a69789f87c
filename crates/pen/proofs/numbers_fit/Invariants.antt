-- The loop of `pen::numbers_fit`: the room left falls by each number.
use Rattle.pen.proofs.Numbers.{Measured}
use Rattle.pen.proofs.numbers_fit.Given as goal

abbrev pub invariant-loop-i : goal.invariant-loop-i
invariant-loop-i l = Measured l.room l.numbers l.left l.i
