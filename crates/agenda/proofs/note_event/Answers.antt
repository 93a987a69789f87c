-- `agenda::note_event`: one store and the context's way to the top make the work area after one more event.
use Rattle.std.proofs.Common.{rules}
use Rattle.agenda.proofs.Coming.{coming}
use Rattle.agenda.proofs.Noted.{noted_ranked, noted}
use Rattle.agenda.proofs.note_event.Goals as goal

pub move_on-requires-clause-nodes_played : goal.move_on-requires-clause-nodes_played
move_on-requires-clause-nodes_played c = search (rules, coming, noted_ranked)

pub returns-clause-agenda_2 : goal.returns-clause-agenda_2
returns-clause-agenda_2 c = search (rules, coming, noted)
