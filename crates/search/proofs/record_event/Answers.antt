-- `search::record_event`: `note_event` changes the part lent to it, and leaves the others.
use Rattle.std.proofs.Common.{sym}
use Rattle.search.proofs.Areas.{agenda_long, agenda_written, agenda_besides}
use Rattle.search.proofs.record_event.Goals as goal

pub slice_bounds-note_event-end-2 : goal.slice_bounds-note_event-end-2
slice_bounds-note_event-end-2 c = sym (agenda_long c.args.work.now c.requires.agenda_in.0)

pub returns : goal.returns
returns c =
    let w = c.args.work.now in
    let room = c.requires.agenda_in.0 in
    let e = c.note_event in
    let out = e.new.work in
    let long = e.auto.work in
    record { agenda = rw (agenda_written w room out long) e.ensures.agenda_2; work_unchanged = agenda_besides w room out long }
