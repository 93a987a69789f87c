-- `search::run`: each step of the loop and each way out is a law of `Searching`.
use Rattle.std.proofs.Common.{sym, ap, ◌∙◌, arith}
use Rattle.agenda.specs.Said.{next_said}
use Rattle.search.proofs.Searching.{searching_start, searching_next, searching_full, searching_end, more_left}
use Rattle.search.proofs.Due.{due_at}
use Rattle.search.proofs.run.Goals as goal

pub events-init : goal.events-init
events-init c = searching_start c.requires.list_value c.lay_work.ensures.agenda c.lay_work.ensures.work_after

pub turn-counts-requires-clause-event_value : goal.turn-counts-requires-clause-event_value
turn-counts-requires-clause-event_value c = (due_at _ _ _ (sym c.event_due.ensures ∙ ap next_said c.in-Some.is)).0

pub overflow_add-events : goal.overflow_add-events
overflow_add-events c = let s = c.args.tables.sound in omega (arith, more_left s c.events.invariant (sym c.event_due.ensures ∙ ap next_said c.in-Some.is), s.short)

pub returns-then-trail-counts : goal.returns-then-trail-counts
returns-then-trail-counts c =
    let full = searching_full c.args.tables.sound c.events.invariant (sym c.event_due.ensures ∙ ap next_said c.in-Some.is) c.turn-counts.ensures.after_events_2 c.if-trail-counts.true in
    rw (c.at.ensures.rule, c.at.ensures.place) full

pub events-smaller : goal.events-smaller
events-smaller c = omega (arith, more_left c.args.tables.sound c.events.invariant (sym c.event_due.ensures ∙ ap next_said c.in-Some.is))

pub events-preserved : goal.events-preserved
events-preserved c =
    let e = c.turn-counts in
    searching_next c.args.tables.sound c.events.invariant (sym c.event_due.ensures ∙ ap next_said c.in-Some.is) e.ensures.after_events_2 c.if-trail-counts.false e.ensures.agenda e.auto.list e.auto.work e.auto.trail

pub returns : goal.returns
returns c = searching_end c.args.tables.sound c.events.invariant (sym c.event_due.ensures ∙ ap next_said c.in_default.is)
