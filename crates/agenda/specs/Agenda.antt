-- What the work area holds after some events: of each context how much is left, and the events done at each code.
-- It is a function of the site and of the events done.
use Rattle.std.specs.Prelude.{cond, List, ◌++◌, map, ◌≡◌, ℕ, pred, ◌+◌, ◌-◌, ◌≤◌, ◌<◌, eqb, ltb, leb, length, get_or, take, replicate}
use Rattle.order.specs.Order.{keep}
use Rattle.site.specs.Measure.{in_use}
use Rattle.site.specs.Site.{Site, up_to}
use Rattle.site.specs.Events.{Event, events_of, posting_of}
use Rattle.site.specs.Tables.{all_codes}
use Rattle.words.specs.Words.{Holds}
use Rattle.walk.specs.declared.Fraction.{Fraction}
use Rattle.agenda.specs.Layout.{agenda_room}
use Rattle.agenda.specs.Tournament.{left_of, left_in, node_word, top_node, NodesPlayed}
use Rattle.agenda.specs.Postings.{often, codes_below, starts, buckets}

-- the first j events
abbrev pub first_events : Site → ℕ → List Event
first_events site j = take j (events_of in_use site)

-- of the first j events those at code x
abbrev pub posted_of : Site → ℕ → ℕ → List Event
posted_of site j x = posting_of site (first_events site j) x

-- how many of the events done are of context i
unfoldable pub count_in : List Event → ℕ → ℕ
count_in done i = length (keep (λ e. eqb i e.context) done)

-- below 257 the numerator of a word, from there on its denominator, and from 514 on the word of a node, or 0 before the top
unfoldable pub head_word : ℕ → (ℕ → Fraction) → ℕ → ℕ
head_word top f i = cond (ltb i 257) (f i).num (cond (ltb i 514) (f (i - 257)).den (cond (ltb i (514 + top)) 0 (node_word f (i - 514))))

-- these words, in a row
unfoldable pub heads : ℕ → (ℕ → Fraction) → List ℕ
heads top f = map (head_word top f) (up_to 1026)

-- where each code's bucket starts, and the buckets
unfoldable pub tails : Site → List Event → List ℕ
tails site done = starts (all_codes site) ++ buckets site done

-- what is left of the contexts and the nodes, the starts and the buckets
unfoldable pub agenda_words : Site → List Event → List ℕ
agenda_words site done = heads (top_node (length site)) (left_of site (count_in done)) ++ tails site done

-- the work area after j events
pub record Agenda (site : Site) (j : ℕ) (work : List ℕ) : Type 0 where
  pub holds : Holds work (agenda_words site (first_events site j))
  pub within : j ≤ length (events_of in_use site)
  pub room : agenda_room ≤ length work

-- ---- on the way to the start

-- up to y how many codes are below x, and behind it how often the code before x stands
unfoldable pub summed : ℕ → List ℕ → ℕ → ℕ
summed y codes x = cond (leb x y) (codes_below codes x) (often codes (pred x))

-- nothing in front, and the starts as far as they are summed up
unfoldable pub summed_to : ℕ → List ℕ → List ℕ
summed_to y codes = replicate 1026 0 ++ map (summed y codes) (up_to 4097)

-- the work area with the starts summed up so far, and zeros behind them
pub record SummedTo (y : ℕ) (codes work : List ℕ) : Type 0 where
  pub holds : Holds work (summed_to y codes)
  pub room : agenda_room ≤ length work

-- no context has come anywhere, and no node but the leaves has its word
pub record LaidOut (site : Site) (codes work : List ℕ) : Type 0 where
  pub ranked : NodesPlayed 255 work
  pub lefts : (w : ℕ) → w ≤ 256 → left_in work w ≡ left_of site (λ i. 0) w
  pub none : (t : ℕ) → t < 256 → get_or work (514 + t) 0 ≡ 0
  pub behind : (i : ℕ) → get_or work (1026 + i) 0 ≡ get_or (map (summed 4096 codes) (up_to 4097)) i 0
