-- What an answer says: the next event, or that all are done; an event done at a code, or that there are no more.
use Rattle.std.specs.Prelude.{Option, None, Some}
use Rattle.site.specs.declared.Context.{Context}
use Rattle.agenda.specs.declared.Event.{Event}
use Rattle.agenda.specs.Next.{Next}
use Rattle.agenda.specs.Postings.{Posted}
use Rattle.agenda.specs.Next as next
use Rattle.agenda.specs.Postings as postings

-- of the next event
abbrev pub next_said : Option Event → Next
next_said None = next.Over
next_said (Some e) = next.At e.context e.place

-- of an event done
abbrev pub posted_said : Option Context → Posted
posted_said None = postings.Over
posted_said (Some c) = postings.At c
