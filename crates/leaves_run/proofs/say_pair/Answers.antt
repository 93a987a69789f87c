-- `leaves_run::say_pair`: tables that pass the checks have contexts that can be walked.
use Rattle.std.proofs.Common.{arith}
use Rattle.leaves_run.proofs.Accepted.{second, walkable}
use Rattle.leaves_run.proofs.say_pair.Goals as goal

pub context-xs-requires : goal.context-xs-requires
context-xs-requires g c = omega (arith, second c.in-Ok.tables c.contexts.ensures (omega (arith, c.if-contexts-lt2.false)))

pub context-ys-requires : goal.context-ys-requires
context-ys-requires g c = omega (arith, second c.in-Ok.tables c.contexts.ensures (omega (arith, c.if-contexts-lt2.false)))

pub shared_count-shared-requires-clause-sorted : goal.shared_count-shared-requires-clause-sorted
shared_count-shared-requires-clause-sorted g c = (walkable c.in-Ok.tables c.contexts.ensures (omega (arith, c.if-contexts-lt2.false)) c.context-xs.ensures c.context-ys.ensures).0

pub shared_count-shared-requires-clause-xs_len_bound : goal.shared_count-shared-requires-clause-xs_len_bound
shared_count-shared-requires-clause-xs_len_bound g c = (walkable c.in-Ok.tables c.contexts.ensures (omega (arith, c.if-contexts-lt2.false)) c.context-xs.ensures c.context-ys.ensures).1

pub union_count-union-requires-clause-xs_len_bound : goal.union_count-union-requires-clause-xs_len_bound
union_count-union-requires-clause-xs_len_bound g c = (walkable c.in-Ok.tables c.contexts.ensures (omega (arith, c.if-contexts-lt2.false)) c.context-xs.ensures c.context-ys.ensures).1

pub meet-requires-clause-sorted : goal.meet-requires-clause-sorted
meet-requires-clause-sorted g c = (walkable c.in-Ok.tables c.contexts.ensures (omega (arith, c.if-contexts-lt2.false)) c.context-xs.ensures c.context-ys.ensures).0

pub meet-requires-clause-xs_len_bound : goal.meet-requires-clause-xs_len_bound
meet-requires-clause-xs_len_bound g c = (walkable c.in-Ok.tables c.contexts.ensures (omega (arith, c.if-contexts-lt2.false)) c.context-xs.ensures c.context-ys.ensures).1
