-- `Tables::contexts`: one less than the offsets.
use Rattle.std.proofs.Common.{arith}
use Rattle.tables.proofs.Sound.{contexts_are}
use Rattle.tables.proofs.accepted.Tables.contexts.Goals as goal

pub returns : goal.returns
returns c = omega (arith, contexts_are c.args.self.sound)
