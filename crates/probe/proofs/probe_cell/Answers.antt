-- What `probe::probe_cell` still has to show: behind the call, the heat map's own contract in words.
use Rattle.std.proofs.Common.{rules, ◌∙◌}
use Rattle.heat.proofs.Rounded.{value_told}
use Rattle.probe.proofs.Probed.{cell_told}
use Rattle.probe.proofs.probe_cell.Goals as goal

pub returns-clause-answer_after : goal.returns-clause-answer_after
returns-clause-answer_after c =
    cell_told _ _ _ _ _ _ _ c.if-answer-lt4.false (search rules) c.cell_of-r.ensures (c.value_of.ensures ∙ value_told _) c.put.ensures
