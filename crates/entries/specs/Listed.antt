-- What the list buffer holds in the join's loop.
use Rattle.std.specs.Prelude.{List, map, ◌≡◌, ℕ, length}
use Rattle.order.specs.Order.{◌∈◌, Distinct}
use Rattle.site.specs.Measure.{in_use}
use Rattle.site.specs.Site.{Site, Pair, Shares, top_of}
use Rattle.words.specs.Words.{flat, Holds}
use Rattle.entries.specs.Entries.{entry_of, words}

-- the words of the entries of some pairs
abbrev pub entry_words : Site → List Pair → List ℕ
entry_words site pairs = flat words (map (entry_of site) pairs)

-- the list holds the k most alike of some pairs
pub record Listed (site : Site) (k : ℕ) (pairs : List Pair) (list : List ℕ) (found : ℕ) : Type 0 where
  pub holds : Holds list (entry_words site (top_of in_use site k pairs))
  pub count : found ≡ length (top_of in_use site k pairs)

-- pairs that share a code, each once
pub record Proper (site : Site) (pairs : List Pair) : Type 0 where
  pub once : Distinct pairs
  pub share : (q : Pair) → q ∈ pairs → Shares site q
