-- `agenda::move_on`: from its leaf up to the top each node gets its new word.
use Rattle.std.proofs.Common.{arith, rules}
use Rattle.agenda.proofs.Climbed.{moving_room, moving_word, moving_start, ascending_ranked, ascending_next}
use Rattle.agenda.proofs.move_on.Goals as goal

pub of-best-requires-clause-room : goal.of-best-requires-clause-room
of-best-requires-clause-room c = moving_room c.requires.c_lt_contexts c.requires.nodes_played c.from-w.ensures c.leaf_word-own.ensures

pub of-best-requires-clause-word_bound : goal.of-best-requires-clause-word_bound
of-best-requires-clause-word_bound c = moving_word c.requires.c_lt_contexts c.requires.nodes_played c.from-w.ensures c.leaf_word-own.ensures

pub loop-t-init : goal.loop-t-init
loop-t-init c = search (rules, moving_start)

pub play_on-best-requires-clause-nodes_played : goal.play_on-best-requires-clause-nodes_played
play_on-best-requires-clause-nodes_played c = ascending_ranked c.loop-t.invariant (omega arith)

pub loop-t-preserved : goal.loop-t-preserved
loop-t-preserved c = ascending_next c.loop-t.invariant (omega arith) c.play_on-best.ensures
