-- The loop of `agenda::count_codes`, which counts one code a turn.
use Rattle.std.proofs.Common.{take}
use Rattle.agenda.specs.Agenda.{SummedTo}
use Rattle.agenda.proofs.count_codes.Given as goal

abbrev pub invariant-loop-code : goal.invariant-loop-code
invariant-loop-code l = SummedTo 0 (take l.code-index l.tables.codes.now) l.work
