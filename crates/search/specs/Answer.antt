-- What the search and the join answer, in the paper's words.
use Rattle.std.specs.Prelude.{ℕ, Result}
use Rattle.refusal.specs.declared.Refusal.{Refusal}
use Rattle.refusal.specs.Numbers.{said}
use Rattle.search.specs.declared.Counted.{Counted}

-- three counts, found, events and met, or a refusal with its number and place
pub data Answer : Type 0 where
  Listed : ℕ → ℕ → ℕ → Answer
  Refused : ℕ → ℕ → Answer

-- what a result says as an answer
abbrev pub answer_said : Result Counted Refusal → Answer
answer_said r = said (λ c. Listed c.found c.events c.met) Refused r
