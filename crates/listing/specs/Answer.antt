-- What the listing answers, in the paper's words.
use Rattle.std.specs.Prelude.{ℕ, Result}
use Rattle.refusal.specs.declared.Refusal.{Refusal}
use Rattle.refusal.specs.Numbers.{said}

-- the text's length, or the number and the place of a refusal
pub data Listing : Type 0 where
  Text : ℕ → Listing
  Refused : ℕ → ℕ → Listing

-- what a result says as an answer
abbrev pub listing_said : Result ℕ Refusal → Listing
listing_said r = said Text Refused r
