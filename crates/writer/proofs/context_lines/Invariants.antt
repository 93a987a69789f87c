-- The loop of `writer::context_lines`: a line for each context, and none behind one without room.
use Rattle.pen.proofs.Past.{Grown}
use Rattle.sheet.specs.Text.{lines_text}
use Rattle.tables.specs.Accepted.{the_site}
use Rattle.writer.proofs.context_lines.Given as goal

abbrev pub invariant-loop-i : goal.invariant-loop-i
invariant-loop-i l = Grown lines_text (the_site l.tables) l.initial.text l.text l.initial.pen l.pen l.i
