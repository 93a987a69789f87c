-- The loop of `tables::check_offsets`: `Checked`.
use Rattle.std.proofs.Common.{length}
use Rattle.tables.specs.Rules.{offset_rule}
use Rattle.tables.proofs.Checked.{Checked}
use Rattle.tables.proofs.check_offsets.Given as goal

abbrev pub invariant-loop-i : goal.invariant-loop-i
invariant-loop-i l = Checked (offset_rule l.offsets l.codes_len) 0 (length l.offsets) l.i
