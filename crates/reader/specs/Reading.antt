-- A sheet's reading, as the call's answer says it.
use Rattle.std.specs.Prelude.{ℕ, Result}
use Rattle.refusal.specs.declared.Refusal.{Refusal}
use Rattle.refusal.specs.Numbers.{said}
use Rattle.reader.specs.declared.Sheet as read

-- k, and how many contexts and codes there are; or the number and the place of a refusal
pub data Reading : Type 0 where
  Sheet : ℕ → ℕ → ℕ → Reading
  Refused : ℕ → ℕ → Reading

-- what the call's answer says
abbrev pub reading_said : Result read.Sheet Refusal → Reading
reading_said r = said (λ (s : read.Sheet). Sheet s.k s.contexts s.codes) Refused r
