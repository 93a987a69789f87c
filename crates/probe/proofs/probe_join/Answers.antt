-- What `probe::probe_join` still has to show: behind the call, the join's own contract in words.
use Rattle.probe.proofs.Probed.{join_told}
use Rattle.probe.proofs.probe_join.Goals as goal

pub returns-clause-answer_after : goal.returns-clause-answer_after
returns-clause-answer_after c = join_told _ _ _ _ _ _ _ c.if-answer-lt4.false _ c.join.ensures c.put.ensures
