-- `entries::insert` meets its contract: the two ways out are laws of the insertion.
use Rattle.std.proofs.Common.{arith}
use Rattle.entries.proofs.Insertion.{rank_within, none_listed, one_listed}
use Rattle.entries.proofs.insert.Goals as goal

pub returns-then-p-k : goal.returns-then-p-k
returns-then-p-k c =
    let r = c.requires in
    let t = none_listed _ _ _ _ _ r.found_le_k.0 r.k_in_bounds r.ordered c.find_rank-p.ensures c.if-p-k.true in
    record { value = t.0; list_after = t.1.0; inserts = t.1.1.0; ordered_2 = t.1.1.1 }

pub shift-requires : goal.shift-requires
shift-requires c = let r = c.requires in omega (arith, rank_within _ _ _ _ _ r.found_le_k.0 r.k_in_bounds c.find_rank-p.ensures)

pub returns : goal.returns
returns c =
    let r = c.requires in
    let t = one_listed _ _ _ _ _ r.found_le_k.0 r.k_in_bounds r.ordered c.find_rank-p.ensures c.if-p-k.false c.min-keep.ensures c.shift.ensures c.put_entry.ensures in
    record { value = t.0; list_after = t.1.0; inserts = t.1.1.0; ordered_2 = t.1.1.1 }
