-- An event and another context that has its code: their pair, and what of it is met at the event.
use Rattle.std.specs.Prelude.{Bool, List, ℕ}
use Rattle.site.specs.Site.{Pair}
use Rattle.site.specs.Events.{pair_of}
use Rattle.tables.specs.Accepted.{the_site}
use Rattle.search.specs.Search.{context_is, first_here, shared_here, met_with}
use Rattle.search.specs.declared.Crossing.{Crossing}

-- the pair of its contexts
abbrev pub the_pair : Crossing → Pair
the_pair x = pair_of (context_is x.event.context) (context_is x.other)

-- whether they meet here
abbrev pub meets : Crossing → Bool
meets x = first_here (the_site x.tables) x.event.context x.event.place x.other

-- how many codes they share, if they do; else 0
abbrev pub shares : Crossing → ℕ
shares x = shared_here (the_site x.tables) x.event.context x.event.place x.other

-- their pair, if they do; else none
abbrev pub met_pair : Crossing → List Pair
met_pair x = met_with (the_site x.tables) x.event.context x.event.place x.other
