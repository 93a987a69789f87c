-- The loop of `agenda::move_on`: `Ascending`.
use Rattle.agenda.specs.Tournament.{top_node}
use Rattle.agenda.proofs.Climbed.{Ascending}
use Rattle.agenda.proofs.move_on.Given as goal

abbrev pub invariant-loop-t : goal.invariant-loop-t
invariant-loop-t l = Ascending (top_node l.contexts) l.initial.work l.work l.t l.best

abbrev pub decreases-loop-t : goal.decreases-loop-t
decreases-loop-t l = l.t
