-- `search::event_due`: no event is left, or the next one is below what the list asks, or it is due.
use Rattle.std.proofs.Common.{sym, ap, ◌∙◌}
use borrow.Author.Tests.{not-true, not-false}
use Rattle.tables.proofs.Sound.{sound_rises}
use Rattle.agenda.specs.Said.{next_said}
use Rattle.agenda.proofs.Coming.{coming}
use Rattle.search.proofs.Areas.{agenda_long}
use Rattle.search.proofs.Due.{due_over, due_below, due_next}
use Rattle.search.proofs.Gained.{after_proper}
use Rattle.search.proofs.event_due.Goals as goal

pub slice_bounds-next_event-end : goal.slice_bounds-next_event-end
slice_bounds-next_event-end c = sym (agenda_long c.args.work.now c.requires.agenda_in.0)

pub returns-in_err-event : goal.returns-in_err-event
returns-in_err-event c = ap next_said (c.from_residual.ensures ∙ sym c.in_err-event.was) ∙ due_over _ _ _ c.next_event.ensures (ap next_said c.in_err-event.was)

pub stops-requires-clause-occurs : goal.stops-requires-clause-occurs
stops-requires-clause-occurs c = (coming _ _ (sym c.next_event.ensures ∙ ap next_said c.in_ok-event.was)).occurs

pub returns-then-stops : goal.returns-then-stops
returns-then-stops c =
    let m = coming _ _ (sym c.next_event.ensures ∙ ap next_said c.in_ok-event.was) in
    let told = c.stops.ensures _ (after_proper _ (sound_rises c.args.tables.sound) _) c.requires.listed in
    due_below _ _ _ m (not-true _ (sym told ∙ c.if-stops.true))

pub returns : goal.returns
returns c =
    let e = c.next_event.ensures in
    let is = ap next_said c.in_ok-event.was in
    let told = c.stops.ensures _ (after_proper _ (sound_rises c.args.tables.sound) _) c.requires.listed in
    sym is ∙ due_next _ _ _ (coming _ _ (sym e ∙ is)) (not-false _ (sym told ∙ c.if-stops.false)) e
