-- The loop of `reader::number::value`: `Valued`.
use Rattle.reader.proofs.Digits.{Valued}
use Rattle.reader.proofs.number.value.Given as goal

abbrev pub invariant-loop-b : goal.invariant-loop-b
invariant-loop-b l = Valued l.digits l.v l.b-index
