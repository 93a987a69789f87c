-- `agenda::play`: the words of the two nodes below are words of contexts.
use Rattle.std.proofs.Common.{arith}
use Rattle.agenda.proofs.Ranks.{node_inside}
use Rattle.agenda.proofs.play.Goals as goal

pub of-x-requires-clause-word_bound : goal.of-x-requires-clause-word_bound
of-x-requires-clause-word_bound c = node_inside c.requires.nodes_played _ (omega arith) (omega arith)

pub of-y-requires-clause-word_bound : goal.of-y-requires-clause-word_bound
of-y-requires-clause-word_bound c = node_inside c.requires.nodes_played _ (omega arith) (omega arith)
