-- `search::enter`: the pair put on the trail, and its entry inserted in the list.
use Rattle.search.proofs.Kept.{kept_add}
use Rattle.search.proofs.enter.Goals as goal

pub returns : goal.returns
returns c =
    let e = c.insert.ensures in
    λ site R p q. kept_add R c.args.k p q c.put_pair.auto.trail c.put_pair.ensures.trail_after e.value e.inserts
