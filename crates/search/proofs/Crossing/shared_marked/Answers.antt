-- `search::Crossing::shared_marked`: the codes of the other context that are marked are those that it shares with the event's context.
use Rattle.tables.proofs.Sound.{two_parts, sound_rises}
use Rattle.search.proofs.Steps.{marked_here, beside_inside}
use Rattle.search.proofs.Areas.{marks_long, context_small}
use Rattle.search.proofs.Crossing.shared_marked.Goals as goal

pub context-requires : goal.context-requires
context-requires c = beside_inside c.args.self.tables.sound c.args.self.beside

pub marked_from-requires : goal.marked_from-requires
marked_from-requires c =
    let s = c.args.self.tables.sound in
    let d = c.args.self.other.0 in
    let y = c.context.ensures in
    let h = beside_inside s c.args.self.beside in
    record { marks_len = (marks_long c.args.work.now c.requires.wide, context_small s d h y); ys_len_bound = (two_parts s d d h h y y).1.0 }

pub returns : goal.returns
returns c =
    let u = c.requires in
    let s = c.args.self.tables.sound in
    let y = c.context.ensures in
    let small = context_small s c.args.self.other.0 (beside_inside s c.args.self.beside) y in
    marked_here c.args.self.beside (sound_rises s) u.laid y small c.args.self.code_value c.marked_from.ensures
