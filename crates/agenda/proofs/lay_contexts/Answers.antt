-- `agenda::lay_contexts`: each turn lays out one context.
use Rattle.std.proofs.Common.{rules}
use Rattle.agenda.proofs.Laying.{laying_start, laying_end}
use Rattle.agenda.proofs.lay_contexts.Goals as goal

pub loop-i-init : goal.loop-i-init
loop-i-init c = search (rules, laying_start)

pub returns : goal.returns
returns c = search (rules, laying_end)
