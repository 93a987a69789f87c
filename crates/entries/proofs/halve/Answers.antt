-- `entries::halve` meets its contract: each half is a law of `RankWithin`.
use Rattle.std.proofs.Common.{arith}
use Rattle.entries.proofs.Ranked.{ranked_lower, ranked_upper}
use Rattle.entries.proofs.halve.Goals as goal

pub loop-lo-preserved-then-rank_before : goal.loop-lo-preserved-then-rank_before
loop-lo-preserved-then-rank_before c = ranked_lower c.loop-lo.invariant _ c.entry_at.ensures c.rank_before.ensures (omega arith) c.if-rank_before.true

pub loop-lo-preserved : goal.loop-lo-preserved
loop-lo-preserved c = ranked_upper c.loop-lo.invariant _ c.entry_at.ensures c.rank_before.ensures (omega arith) c.requires.ordered.0 c.requires.ordered.1 c.if-rank_before.false
