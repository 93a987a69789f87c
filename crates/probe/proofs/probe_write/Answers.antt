-- What `probe::probe_write` still has to show: behind the call, the writer's own contract in words.
use Rattle.probe.proofs.Probed.{write_told}
use Rattle.probe.proofs.probe_write.Goals as goal

pub returns-clause-answer_after : goal.returns-clause-answer_after
returns-clause-answer_after c = write_told _ _ _ _ _ c.if-answer-lt4.false c.write.ensures c.put.ensures
