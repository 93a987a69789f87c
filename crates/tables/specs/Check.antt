-- What a check says in the paper's words: nothing is refused, or the number of a rule and a place.
use Rattle.std.specs.Prelude.{ℕ, Result}
use Rattle.refusal.specs.declared.Refusal.{Refusal}
use Rattle.refusal.specs.Numbers.{said}

-- what a check of the paper answers
pub data Check : Type 0 where
  Fine : Check
  Refused : ℕ → ℕ → Check

-- what a result says as a check
abbrev pub check_said : {A : Type 0} → Result A Refusal → Check
check_said r = said (λ a. Fine) Refused r
