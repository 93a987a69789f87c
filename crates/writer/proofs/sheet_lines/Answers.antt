-- The `k=` line, the `contexts=` line and the contexts' lines, each only where the one before had room.
use Rattle.std.proofs.Common.{arith}
use Rattle.pen.proofs.InTurn.{both_fit}
use Rattle.writer.proofs.Sheets.{contexts_few, at_front, k_full, contexts_full, sheet_done}
use Rattle.writer.proofs.sheet_lines.Goals as goal
use Rattle.writer.proofs.sheet_lines.Goals.{then-heads-eq0-via-then-heads-eq0, then-heads-eq0-via-else-heads-eq0+then-heads}

pub overflow_cast-contexts : goal.overflow_cast-contexts
overflow_cast-contexts c = omega (arith, contexts_few c.args.tables.sound)

pub returns-then-heads-eq0 : goal.returns-then-heads-eq0
returns-then-heads-eq0 c =
    elim c.then-heads-eq0.branch [
      | then-heads-eq0-via-then-heads-eq0 w ↦ k_full _ _ (at_front c.args.text.now) c.contexts.ensures c.two_lines-heads.ensures w.if-heads-eq0.true
      | then-heads-eq0-via-else-heads-eq0+then-heads w ↦ contexts_full _ _ (at_front c.args.text.now) c.contexts.ensures c.two_lines-heads.ensures w.if-heads-eq0.false w.if-heads.true
    ]

pub context_lines-requires : goal.context_lines-requires
context_lines-requires c = both_fit c.two_lines-heads.ensures (at_front c.args.text.now)

pub returns : goal.returns
returns c = sheet_done _ _ (at_front c.args.text.now) c.contexts.ensures c.two_lines-heads.ensures c.if-heads-eq0.false c.if-heads.false c.context_lines.ensures
