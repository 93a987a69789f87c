-- The loop of `agenda::build_nodes`: `Building`.
use Rattle.agenda.proofs.Built.{Building}
use Rattle.agenda.proofs.build_nodes.Given as goal

abbrev pub invariant-loop-t : goal.invariant-loop-t
invariant-loop-t l = Building l.top l.initial.work l.work l.t
