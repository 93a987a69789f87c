-- `reader::context::context_line_from`: the line's end stands behind its text, whatever that has for a reading.
use Rattle.reader.proofs.Contexts.{context_over}
use Rattle.reader.proofs.context.context_line_from.Goals as goal

pub returns : goal.returns
returns c =
    let line = context_over c.args.sheet.now c.args.at c.args.used c.args.codes.now c.requires.at_in_bounds c.line_from.ensures.0
    (c.context_in.ensures.value, c.context_in.ensures.stored) c.line_end.ensures in
    record { value = line.0; stored = line.1 }
