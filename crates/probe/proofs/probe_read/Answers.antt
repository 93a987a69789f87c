-- What `probe::probe_read` still has to show: behind the call, the reader's own contract in words.
use Rattle.probe.proofs.Probed.{read_told}
use Rattle.probe.proofs.probe_read.Goals as goal

pub returns-clause-answer_after : goal.returns-clause-answer_after
returns-clause-answer_after c = read_told _ _ _ _ c.if-answer-lt4.false c.read.ensures c.put.ensures
