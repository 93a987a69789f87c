-- The events done at one code: what is told of them, and how the work area keeps them.
-- Each code has a bucket with a word for each of its places; the buckets stand in the order of the codes.
use Rattle.std.specs.Prelude.{List, map, ℕ, suc, eqb, ltb, length}
use Rattle.std.proofs.Math.Option.{Option, none, some}
use Rattle.order.specs.Order.{keep}
use Rattle.site.specs.Site.{Site, up_to}
use Rattle.site.specs.Events.{Event, posting_of}
use Rattle.site.specs.Tables.{all_codes}
use Rattle.words.specs.Words.{flat, padded}
use Rattle.site.specs.declared.Context.{Context}

-- an event done at some code, by its context, or that there are no more
pub data Posted : Type 0 where
  At : Context → Posted
  Over : Posted

-- the context of an event done, or that there is none
abbrev pub posted_is : Option Event → Posted
posted_is none = Over
posted_is (some e) = At (record { 0 = e.context })

-- how often a code stands among some codes
unfoldable pub often : List ℕ → ℕ → ℕ
often codes x = length (keep (λ c. eqb c x) codes)

-- how many of some codes are below x
unfoldable pub codes_below : List ℕ → ℕ → ℕ
codes_below codes x = length (keep (λ c. ltb c x) codes)

-- what is kept of an event done: one more than its context's number, so that it is never 0
abbrev pub mark : Event → ℕ
mark e = suc e.context

-- a word for each event at code x: first those done, in their order, then zeros
unfoldable pub bucket : Site → List Event → ℕ → List ℕ
bucket site done x = padded (often (all_codes site) x) (map mark (posting_of site done x))

-- the buckets of all codes, one after the other
unfoldable pub buckets : Site → List Event → List ℕ
buckets site done = flat (bucket site done) (up_to 4096)

-- where each bucket starts, and where the last one ends
unfoldable pub starts : List ℕ → List ℕ
starts codes = map (codes_below codes) (up_to 4097)
