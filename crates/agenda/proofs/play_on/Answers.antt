-- `agenda::play_on`: the word of the node beside is that of a context.
use Rattle.std.proofs.Common.{arith}
use Rattle.agenda.proofs.Ranks.{node_inside}
use Rattle.agenda.proofs.Contenders.{beside_is}
use Rattle.agenda.proofs.play_on.Goals as goal

pub of-other-requires-clause-word_bound : goal.of-other-requires-clause-word_bound
of-other-requires-clause-word_bound c = node_inside c.requires.nodes_played _ (omega (arith, beside_is c.args.t)) (omega (arith, beside_is c.args.t))
