-- The reading of a number or of a line, as a function's answer says it.
use Rattle.std.specs.Prelude.{ℕ, Result}
use Rattle.refusal.specs.declared.Refusal.{Refusal}
use Rattle.refusal.specs.Numbers.{said}
use Rattle.reader.specs.declared.Part as read

-- its value, and the place behind it; or the number and the place of a refusal
pub data Part : Type 0 where
  Read : ℕ → ℕ → Part
  Refused : ℕ → ℕ → Part

-- what a function's answer says
abbrev pub part_said : Result read.Part Refusal → Part
part_said r = said (λ (p : read.Part). Read p.value p.next) Refused r
