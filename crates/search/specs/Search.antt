-- What the functions of the search keep in the list and in the trail, and which event is due.
-- They are the contracts of the private functions; `search_of` (Outcome) is that of the crate.
use Rattle.std.specs.Prelude.{Bool, true, cond, List, [], ◌∷◌, ◌++◌, map, ◌≡◌, ℕ, ◌+◌, ◌*◌, ◌≤◌, ◌<◌, eqb, length, set, take, drop}
use Rattle.std.proofs.Math.Option.{Option, none, some}
use Rattle.std.proofs.Math.ListN.{get_elem?}
use Rattle.site.specs.Ratio.{Ratio, reaches}
use Rattle.site.specs.Measure.{in_use}
use Rattle.order.specs.Order.{◌∈◌}
use Rattle.site.specs.Site.{Site, Rising, Pair, codes_of, shared}
use Rattle.site.specs.Events.{Event, Occurs, code_at, first_place, pair_of, ceiling_at, cut_of, events_of, met_after}
use Rattle.site.specs.declared.Context.{Context}
use Rattle.site.specs.declared.Place.{Place}
use Rattle.words.specs.Words.{Holds, Begins}
use Rattle.tables.specs.declared.accepted.Tables.{Tables}
use Rattle.marks.specs.Marks.{code_words, marks_of}
use Rattle.agenda.specs.Layout.{agenda_room}
use Rattle.agenda.specs.Agenda.{Agenda}
use Rattle.agenda.specs.Next.{event_is}
use Rattle.entries.specs.Entries.{width, entry_of}
use Rattle.entries.specs.declared.Entry.{Entry}
use Rattle.entries.specs.Listed.{Listed, Proper}
use Rattle.search.specs.Outcome.{trail_words, counted, trail_need, listed_words, met_words}
use Rattle.search.specs.declared.TwoContexts.{TwoContexts}
use Rattle.search.specs.declared.Counts.{Counts}
use Rattle.search.specs.Answer.{Answer}
use Rattle.search.specs.Answer as answer

-- an event of a context, at no place
abbrev pub context_is : Context → Event
context_is c = record { context = c.0; place = 0 }

-- the pair of two contexts
abbrev pub pair_is : TwoContexts → Pair
pair_is p = record { lower = p.lower.0; higher = p.higher.0 }

-- a context of the tables
abbrev pub IsContext : Tables → Context → Type 0
IsContext tables c = c.0 + 1 < length tables.offsets.now

-- the pairs of so many contexts have marks
abbrev pub most : ℕ
most = 110

-- in so many words
abbrev pub pair_words : ℕ
pair_words = 757

-- ---- two contexts at an event

-- d is another context that has the code at place p of context c
pub record Beside (site : Site) (c : Context) (p : Place) (d : Context) : Type 0 where
  pub occurs : Occurs site (event_is c p)
  pub inside : d.0 < length site
  pub other : d.0 ≡ c.0 → ⊥
  pub code : code_at site (event_is c p) ∈ codes_of site d.0

-- how many codes two contexts share
abbrev pub shared_by : Site → Context → Context → ℕ
shared_by site c d = shared (codes_of site c.0) (codes_of site d.0)

-- whether the first of them stands at place p of c
unfoldable pub first_here : Site → Context → Place → Context → Bool
first_here site c p d = eqb p.0 (first_place (codes_of site c.0) (codes_of site d.0))

-- how many they share, if it does; else 0
unfoldable pub shared_here : Site → Context → Place → Context → ℕ
shared_here site c p d = cond (first_here site c p d) (shared_by site c d) 0

-- their pair, if it does; else none
unfoldable pub met_with : Site → Context → Place → Context → List Pair
met_with site c p d = cond (first_here site c p d) (pair_of (context_is c) (context_is d) ∷ []) []

-- ---- the work area

-- it has its 10,240 words
abbrev pub Wide : List ℕ → Type 0
Wide work = 10240 ≤ length work

-- the words of the agenda
abbrev pub agenda_part : List ℕ → List ℕ
agenda_part work = take agenda_room work

-- behind them the marks of the codes of one context
abbrev pub marks_part : List ℕ → List ℕ
marks_part work = take code_words (drop agenda_room work)

-- and behind these the marks of the pairs that were met
abbrev pub pairs_part : List ℕ → List ℕ
pairs_part work = take pair_words (drop (agenda_room + code_words) work)

-- there is a work area, and the agenda stands in its part of it
abbrev pub AgendaIn : Site → ℕ → List ℕ → Type 0
AgendaIn site events work = Wide work × Agenda site events (agenda_part work)

-- only the marks of codes have changed
abbrev pub Remarked : List ℕ → List ℕ → Type 0
Remarked work work' = (agenda_part work' ≡ agenda_part work) × (pairs_part work' ≡ pairs_part work)

-- if so told, the codes of context c are marked
abbrev pub Laid : Site → Context → Bool → List ℕ → Type 0
Laid site c marked work = marked ≡ true → marks_part work ≡ marks_of code_words (codes_of site c.0)

-- the number of a pair of the first 110 contexts
abbrev pub pair_number : Pair → ℕ
pair_number p = most * p.lower + p.higher

-- where the contexts are no more, the pairs are marked
abbrev pub Seen : Site → List Pair → List ℕ → Type 0
Seen site pairs work = length site ≤ most → pairs_part work ≡ marks_of pair_words (map pair_number pairs)

-- by them a pair is one that was met
abbrev pub MetBefore : Site → Pair → List ℕ → Type 0
MetBefore site p work = (pairs : List Pair) → Proper site pairs → Seen site pairs work → p ∈ pairs

-- and now it is
abbrev pub Noted : Site → Pair → List ℕ → List ℕ → Type 0
Noted site p work work' = (pairs : List Pair) → Seen site pairs work → Seen site (pairs ++ p ∷ []) work'

-- ---- the list and the trail

-- k pairs are asked for, and the list has room for so many entries
abbrev pub RoomFor : ℕ → List ℕ → Type 0
RoomFor k list = (0 < k) × (k ≤ 64) × (width * k ≤ length list)

-- the trail with an entry's contexts behind the `met` pairs on it
abbrev pub with_contexts : List ℕ → ℕ → Entry → List ℕ
with_contexts trail met e = set (set trail (2 * met) e.lower.0) (2 * met + 1) e.higher.0

-- after some pairs: the list holds the k most alike, and the trail begins with all of them where it has room
pub record Kept (site : Site) (k : ℕ) (pairs : List Pair) (list buffer : List ℕ) (n : Counts) : Type 0 where
  pub listed : Listed site k pairs list n.found
  pub trailed : 2 * length pairs ≤ length buffer → Begins buffer (trail_words pairs)
  pub met : n.met ≡ length pairs

-- more pairs are taken up, whatever the buffers hold
abbrev pub Takes : Site → ℕ → List Pair → List ℕ → List ℕ → Counts → List ℕ → List ℕ → Counts → Type 0
Takes site k more list buffer n list' buffer' n' =
    (pairs : List Pair) → Proper site (pairs ++ more) → Kept site k pairs list buffer n → Kept site k (pairs ++ more) list' buffer' n'

-- after some pairs, what is kept of them and their marks
pub record After (site : Site) (k : ℕ) (pairs : List Pair) (list work buffer : List ℕ) (n : Counts) : Type 0 where
  pub kept : Kept site k pairs list buffer n
  pub seen : Seen site pairs work

-- more pairs are met, whatever the buffers hold
abbrev pub Meets : Site → ℕ → List Pair → List ℕ → List ℕ → List ℕ → Counts
    → List ℕ → List ℕ → List ℕ → Counts → Type 0
Meets site k more list work buffer n list' work' buffer' n' =
    (pairs : List Pair) → Proper site (pairs ++ more) → After site k pairs list work buffer n
    → After site k (pairs ++ more) list' work' buffer' n'

-- so many events are done
abbrev pub AfterEvents : Site → ℕ → ℕ → List ℕ → List ℕ → List ℕ → Counts → Type 0
AfterEvents site k events list work buffer n = After site k (met_after in_use site events) list work buffer n

-- a pair is taken up whose entry is e
abbrev pub TakesEntry : ℕ → Entry → List ℕ → List ℕ → Counts → List ℕ → List ℕ → Counts → Type 0
TakesEntry k e list buffer n list' buffer' n' =
    (site : Site) → Rising site → (p : Pair) → e ≡ entry_of site p → Takes site k (p ∷ []) list buffer n list' buffer' n'

-- an event, if its ceiling reaches a cut-off
abbrev pub reaching : Site → Option Ratio → Option Event → Option Event
reaching site cut none = none
reaching site cut (some e) = cond (reaches cut (ceiling_at in_use site e)) (some e) none

-- the event behind the first j, if the search goes on to it
unfoldable pub due_of : Site → ℕ → ℕ → Option Event
due_of site k j = reaching site (cut_of in_use site k (met_after in_use site j)) (get_elem? (events_of in_use site) j)

-- at the end: 8 where the trail does not fit; else the counts, and list and trail are written
pub record Searched (site : Site) (k : ℕ) (list buffer : List ℕ) (r : Answer) : Type 0 where
  pub full : length buffer < trail_need k site → r ≡ answer.Refused 8 0
  pub told : trail_need k site ≤ length buffer → r ≡ counted k site
  pub listed : trail_need k site ≤ length buffer → Holds list (listed_words k site)
  pub trailed : trail_need k site ≤ length buffer → Begins buffer (met_words k site)
