-- `agenda::sum_starts`: each turn makes one count a start.
use Rattle.std.proofs.Common.{rules}
use Rattle.agenda.proofs.Prepared.{sum_more}
use Rattle.agenda.proofs.sum_starts.Goals as goal

pub loop-x-preserved : goal.loop-x-preserved
loop-x-preserved c = search (rules, sum_more)
