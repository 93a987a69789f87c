-- `search::earlier_at`: the part lent to the agenda is as long as the agenda.
use Rattle.std.proofs.Common.{sym}
use Rattle.search.proofs.Areas.{agenda_long}
use Rattle.search.proofs.earlier_at.Goals as goal

pub slice_bounds-posted_at-end : goal.slice_bounds-posted_at-end
slice_bounds-posted_at-end c = sym (agenda_long c.args.work.now c.requires.agenda_in.0)
