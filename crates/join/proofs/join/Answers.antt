-- `join::join`: the checks refuse the call, or the search's outcome is the join's.
use Rattle.std.proofs.Common.{refl, sym, ap, ◌∙◌}
use Rattle.refusal.proofs.Passed.{passed}
use Rattle.tables.proofs.Checks.{refused_first, fine_first}
use Rattle.search.specs.Outcome.{outcome}
use Rattle.search.specs.Answer.{Answer, Refused}
use Rattle.join.specs.Join.{call_check}
use Rattle.join.proofs.Outcomes.{join_refused, join_found}
use Rattle.join.proofs.Checks.{call_accepted}
use Rattle.join.proofs.join.Goals as goal

pub returns-in_err-tables : goal.returns-in_err-tables
unfolding call_check
returns-in_err-tables c =
    let a = c.args in
    let r = c.from_residual in
    ap (λ (x : Answer). outcome x a.list.now a.work.now a.trail.now) (passed _ Refused _ r.result r.ensures.1)
    ∙ join_refused _ _ _ _ _ _ (refused_first _ c.in_err-tables.ensures.value refl) refl

pub returns-in_err-check_rooms : goal.returns-in_err-check_rooms
unfolding call_check
returns-in_err-check_rooms c =
    let a = c.args in
    let r = c.from_residual-in_err-check_rooms in
    ap (λ (x : Answer). outcome x a.list.now a.work.now a.trail.now) (passed _ Refused _ r.result r.ensures.1)
    ∙ join_refused _ _ _ _ _ _ (fine_first c.in_ok-tables.ensures.value refl c.in_err-check_rooms.ensures) refl

pub search-requires : goal.search-requires
unfolding call_check
search-requires c =
    let w = call_accepted _ _ _ _ _ (sym (fine_first c.in_ok-tables.ensures.value refl c.in_ok-check_rooms.ensures)) in
    record { room = rw c.from.ensures (w.some, w.few, w.list_room); wide = w.work_room }

pub returns : goal.returns
unfolding call_check
returns c =
    let same = c.in_ok-tables.ensures.accepted in
    join_found _ _ _ _ _ _ (fine_first c.in_ok-tables.ensures.value refl c.in_ok-check_rooms.ensures) refl (rw (c.from.ensures, same.0, same.1) at c.search.ensures)
