-- `search::turn`: each step of the loop and its end is a law of `Turning`, and the event is noted behind it.
use Rattle.std.proofs.Common.{ap, arith}
use lib.ListN.{length}
use Rattle.agenda.specs.Said.{posted_said}
use Rattle.agenda.proofs.Coming.{coming, coming_inside}
use Rattle.search.proofs.Kept.{after_same}
use Rattle.search.proofs.Turns.{turning_start, turning_few, turning_ordered, turning_small, earlier_few, turning_more, turning_beside, turning_next, turning_end}
use Rattle.search.proofs.turn.Goals as goal

pub context-requires : goal.context-requires
context-requires c = coming_inside c.args.tables.sound (coming _ _ c.requires.event_value)

pub overflow_sub-code : goal.overflow_sub-code
overflow_sub-code c = omega (arith, (coming _ _ c.requires.event_value).occurs.from_one)

pub bounds-context-place : goal.bounds-context-place
bounds-context-place c =
    let w = coming _ _ c.requires.event_value in
    omega (arith, w.occurs.from_one, w.occurs.to_size, ap length c.context.ensures)

pub mark_short-marked-requires-clause-inside : goal.mark_short-marked-requires-clause-inside
mark_short-marked-requires-clause-inside c = coming_inside c.args.tables.sound (coming _ _ c.requires.event_value)

pub mark_short-marked-requires-clause-code_bound : goal.mark_short-marked-requires-clause-code_bound
mark_short-marked-requires-clause-code_bound c = rw c.from-place.ensures (turning_small c.args.tables.sound (coming _ _ c.requires.event_value) c.context.ensures)

pub earlier-init : goal.earlier-init
earlier-init c =
    let u = c.requires in
    let m = c.mark_short-marked in
    rw c.from-place.ensures (turning_start _ c.args.tables.sound u.agenda_in (coming _ _ u.event_value) c.context.ensures u.room u.after_events m.auto.work m.ensures.remarked m.ensures.laid)

pub invariant_of-crossing : goal.invariant_of-crossing
invariant_of-crossing c =
    let w = c.earlier.invariant in record { beside = ∣ turning_beside w c.earlier_at.ensures (ap posted_said c.in-Some.is) ∣₁; code_value = w.code }

pub step-so_far-requires-clause-found_le_k : goal.step-so_far-requires-clause-found_le_k
step-so_far-requires-clause-found_le_k c = turning_few c.earlier.invariant

pub step-so_far-requires-clause-ordered : goal.step-so_far-requires-clause-ordered
step-so_far-requires-clause-ordered c = turning_ordered c.earlier.invariant

pub overflow_add-n : goal.overflow_add-n
overflow_add-n c = let w = c.earlier.invariant in omega (arith, turning_more w c.earlier_at.ensures (ap posted_said c.in-Some.is), earlier_few w)

pub earlier-smaller : goal.earlier-smaller
earlier-smaller c = let w = c.earlier.invariant in omega (arith, turning_more w c.earlier_at.ensures (ap posted_said c.in-Some.is), earlier_few w)

pub earlier-preserved : goal.earlier-preserved
earlier-preserved c =
    let s = c.step-so_far in
    let e = s.ensures in
    turning_next c.earlier.invariant c.earlier_at.ensures (ap posted_said c.in-Some.is) e.meets e.work_unchanged e.laid s.auto.list s.auto.work s.auto.trail

pub record_event-requires-clause-n_value : goal.record_event-requires-clause-n_value
record_event-requires-clause-n_value c = (turning_end c.earlier.invariant c.earlier_at.ensures (ap posted_said c.in_default.is)).1.1

pub returns-clause-after_events_2 : goal.returns-clause-after_events_2
returns-clause-after_events_2 c =
    let r = turning_end c.earlier.invariant c.earlier_at.ensures (ap posted_said c.in_default.is) in after_same r.0 c.record_event.ensures.work_unchanged
