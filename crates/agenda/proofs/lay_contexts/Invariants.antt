-- The loop of `agenda::lay_contexts`: `Laying`.
use Rattle.agenda.proofs.Laying.{Laying}
use Rattle.agenda.proofs.lay_contexts.Given as goal

abbrev pub invariant-loop-i : goal.invariant-loop-i
invariant-loop-i l = Laying l.tables.offsets.now l.tables.codes.now l.work l.i
