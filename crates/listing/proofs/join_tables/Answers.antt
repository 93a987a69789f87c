-- `listing::join_tables`: it goes by the join's outcome in its rooms.
use Rattle.std.proofs.Common.{refl, arith}
use Rattle.refusal.proofs.Passed.{passed}
use Rattle.listing.specs.Joined.{Refused}
use Rattle.listing.proofs.Joining.{counts_few, tables_stop, tables_counts}
use Rattle.listing.proofs.join_tables.Goals as goal

pub overflow_cast-result : goal.overflow_cast-result
overflow_cast-result c = omega (arith, (counts_few _ _ _ _ _ _ c.requires (search) (search) c.in_ok-found.ensures refl).found)

pub overflow_cast-result-2 : goal.overflow_cast-result-2
overflow_cast-result-2 c = omega (arith, (counts_few _ _ _ _ _ _ c.requires (search) (search) c.in_ok-found.ensures refl).events)

pub overflow_cast-result-3 : goal.overflow_cast-result-3
overflow_cast-result-3 c = omega (arith, (counts_few _ _ _ _ _ _ c.requires (search) (search) c.in_ok-found.ensures refl).met)

pub returns-in_err-found : goal.returns-in_err-found
returns-in_err-found c =
    rw (passed _ Refused _ c.from_residual.result c.from_residual.ensures.1) (tables_stop _ _ _ _ _ _ c.requires (search) (search) c.in_err-found.ensures refl)

pub returns : goal.returns
returns c = tables_counts _ _ _ _ _ _ c.requires (search) (search) c.in_ok-found.ensures refl
