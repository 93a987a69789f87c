-- `search::lay_marks`: `mark` marks the context's codes in the part lent to it, and leaves the others.
use Rattle.std.proofs.Common.{ap, ◌∙◌}
use lib.ListN.{length}
use Rattle.marks.specs.Marks.{code_words, marks_of}
use Rattle.marks.proofs.Marked.{marks_length}
use Rattle.search.proofs.Areas.{marks_long, marks_besides, marks_written, context_small}
use Rattle.search.proofs.lay_marks.Goals as goal

pub mark-requires : goal.mark-requires
mark-requires c = (marks_long c.args.work.now c.requires.wide, context_small c.args.tables.sound c.args.c.0 c.requires.inside c.context.ensures)

pub returns : goal.returns
returns c =
    let w = c.args.work.now in
    let room = c.requires.wide in
    let m = c.mark.ensures in
    let out = c.mark.new.marks in
    let long = ap length m ∙ marks_length code_words _ in
    record { remarked = marks_besides w room out long; work_after = marks_written w room out long ∙ m ∙ ap (marks_of code_words) c.context.ensures }
