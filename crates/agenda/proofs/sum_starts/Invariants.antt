-- The loop of `agenda::sum_starts`, which makes one count a start a turn.
use Rattle.agenda.specs.Agenda.{SummedTo}
use Rattle.agenda.proofs.sum_starts.Given as goal

abbrev pub invariant-loop-x : goal.invariant-loop-x
invariant-loop-x l = SummedTo l.x l.tables.codes.now l.work
