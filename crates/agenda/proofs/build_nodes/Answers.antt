-- `agenda::build_nodes`: each turn gives one node its word.
use Rattle.std.proofs.Common.{rules}
use Rattle.agenda.proofs.Built.{building_next}
use Rattle.agenda.proofs.build_nodes.Goals as goal

pub loop-t-preserved : goal.loop-t-preserved
loop-t-preserved c = search (rules, building_next)
