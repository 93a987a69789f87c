-- What the search makes of a site that is accepted: the answer, and every word of the three buffers.
-- The join's own outcome is this one wherever its checks accept.
use Rattle.std.specs.Prelude.{cond, List, [], ◌∷◌, ◌≡◌, ℕ, ◌*◌, Result, ltb, length, replicate}
use Rattle.site.specs.Measure.{in_use}
use Rattle.site.specs.Site.{Site, Pair, list_of}
use Rattle.site.specs.Events.{found, events, met, trail as trail_of}
use Rattle.words.specs.Words.{flat, padded}
use Rattle.entries.specs.Listed.{entry_words}
use Rattle.refusal.specs.declared.Refusal.{Refusal}
use Rattle.search.specs.declared.Counted.{Counted}
pub use Rattle.search.specs.Answer.{Answer, answer_said}
use Rattle.search.specs.Answer as answer

-- the number of an answer: that of its refusal, and 0 where it lists
abbrev pub answer_number : Answer → ℕ
answer_number (answer.Listed found events met) = 0
answer_number (answer.Refused number place) = number

-- the values of an answer: found, events and met, or the place of its refusal
abbrev pub answer_values : Answer → List ℕ
answer_values (answer.Listed found events met) = found ∷ events ∷ met ∷ []
answer_values (answer.Refused number place) = place ∷ []

-- an answer tells a number and values
abbrev pub Tells : Answer → ℕ → List ℕ → Type 0
Tells r number values = (answer_number r ≡ number) × (answer_values r ≡ values)

-- the answer, and the three buffers at exit
pub record Outcome : Type 0 where
  pub answer : Answer
  pub list : List ℕ
  pub work : List ℕ
  pub trail : List ℕ

-- the four of them
abbrev pub outcome : Answer → List ℕ → List ℕ → List ℕ → Outcome
outcome r list work trail = record { answer = r; list = list; work = work; trail = trail }

-- what is seen of a call: its result, and its outcome
abbrev pub call_seen : Result Counted Refusal → List ℕ → List ℕ → List ℕ → Result Counted Refusal × Outcome
call_seen r list work trail = (r, outcome (answer_said r) list work trail)

-- a buffer as long, of zeros
abbrev pub zeros : List ℕ → List ℕ
zeros words = replicate (length words) 0

-- a pair on the trail: the lower context, then the higher
abbrev pub numbers : Pair → List ℕ
numbers p = p.lower ∷ p.higher ∷ []

-- pairs on the trail, one after the other
abbrev pub trail_words : List Pair → List ℕ
trail_words pairs = flat numbers pairs

-- the three counts
abbrev pub three_counts : ℕ → Site → List ℕ
three_counts k site = found in_use site k ∷ events in_use site k ∷ met in_use site k ∷ []

-- the answer that tells them
abbrev pub counted : ℕ → Site → Answer
counted k site = answer.Listed (found in_use site k) (events in_use site k) (met in_use site k)

-- the words that the whole trail needs
abbrev pub trail_need : ℕ → Site → ℕ
trail_need k site = 2 * met in_use site k

-- the words of the list's entries
abbrev pub listed_words : ℕ → Site → List ℕ
listed_words k site = entry_words site (list_of in_use site k)

-- and those of the trail's pairs
abbrev pub met_words : ℕ → Site → List ℕ
met_words k site = trail_words (trail_of in_use site k)

-- 8 where the whole trail does not fit, and then all zeros; else the counts, the list and the trail with zeros behind, and a work area of zeros
unfoldable pub search_of : ℕ → Site → List ℕ → List ℕ → List ℕ → Outcome
search_of k site list work trail =
    cond (ltb (length trail) (trail_need k site))
    (outcome (answer.Refused 8 0) (zeros list) (zeros work) (zeros trail))
    (outcome (counted k site) (padded (length list) (listed_words k site)) (zeros work) (padded (length trail) (met_words k site)))
