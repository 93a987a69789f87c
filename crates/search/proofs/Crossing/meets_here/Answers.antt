-- `search::Crossing::meets_here`: the two contexts meet nowhere, or at the places that `meet` names.
use Rattle.std.proofs.Common.{ap}
use Rattle.tables.proofs.Sound.{two_parts}
use Rattle.walk.specs.Meet.{meeting_said}
use Rattle.search.proofs.Steps.{nowhere, somewhere, event_inside, beside_inside}
use Rattle.search.proofs.Crossing.meets_here.Goals as goal

pub context-requires : goal.context-requires
context-requires c = event_inside c.args.self.tables.sound c.args.self.beside

pub context-requires-2 : goal.context-requires-2
context-requires-2 c = beside_inside c.args.self.tables.sound c.args.self.beside

pub meet-requires : goal.meet-requires
meet-requires c =
    let b = c.args.self.beside in
    let s = c.args.self.tables.sound in
    let t = two_parts s _ _ (event_inside s b) (beside_inside s b) c.context.ensures c.context-2.ensures in
    record { sorted = t.0; xs_len_bound = t.1 }

pub returns-in_default : goal.returns-in_default
returns-in_default c = nowhere c.args.self.beside c.context.ensures c.context-2.ensures c.meet.ensures (ap meeting_said c.in_default.is)

pub returns : goal.returns
returns c = let s = somewhere c.args.self.beside c.context.ensures c.context-2.ensures c.meet.ensures (ap meeting_said c.in-Some.is) in cc
