-- The call's answer, and every byte of the text that it leaves.
use Rattle.std.specs.Prelude.{cond, List, [], ◌∷◌, ◌≡◌, ℕ, ltb, length, Result}
use Rattle.refusal.specs.declared.Refusal.{Refusal}
use Rattle.refusal.specs.Numbers.{said}
use Rattle.words.specs.Words.{padded}
use Rattle.tables.specs.Check.{Check}
use Rattle.tables.specs.Check as check

-- what the call answers in the paper's words: how long the sheet is, or the number of a rule and a place
pub data Writing : Type 0 where
  Written : ℕ → Writing
  Refused : ℕ → ℕ → Writing

-- what a result says as an answer
abbrev pub writing_said : Result ℕ Refusal → Writing
writing_said r = said Written Refused r

-- the number of an answer: that of its refusal, and 0 where the sheet was written
abbrev pub writing_number : Writing → ℕ
writing_number (Written length) = 0
writing_number (Refused number place) = number

-- the value of an answer: the text's length, or the place of its refusal
abbrev pub writing_values : Writing → List ℕ
writing_values (Written length) = length ∷ []
writing_values (Refused number place) = place ∷ []

-- an answer tells a number and values
abbrev pub WritingTells : Writing → ℕ → List ℕ → Type 0
WritingTells r number values = (writing_number r ≡ number) × (writing_values r ≡ values)

-- the call: what the checks refuse; 12 at 0 if the text does not fit; its length
unfoldable pub answer_by : Check → List ℕ → ℕ → Writing
answer_by (check.Refused n p) text room = Refused n p
answer_by check.Fine text room = cond (ltb room (length text)) (Refused 12 0) (Written (length text))

-- and every byte of the lent text: as it was after 1 to 5, zeros after 12, and behind the text
unfoldable pub text_by : Check → List ℕ → List ℕ → List ℕ
text_by (check.Refused n p) text old = old
text_by check.Fine text old = cond (ltb (length old) (length text)) (padded (length old) []) (padded (length old) text)
