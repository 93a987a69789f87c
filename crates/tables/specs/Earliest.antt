-- A rule gives each index the number it is refused with, or 0. What is refused is the earliest index with a number.
use Rattle.std.specs.Prelude.{cond, ℕ, zero, suc, ◌-◌, eqb}
use Rattle.tables.specs.Check.{Check}
use Rattle.tables.specs.Check.{Fine, Refused}

-- of the n indices from i
unfoldable pub first_of : (ℕ → ℕ) → ℕ → ℕ → Check
first_of rule i zero = Fine
first_of rule i (suc n) = cond (eqb (rule i) 0) (first_of rule (suc i) n) (Refused (rule i) i)

-- of the indices from a up to, and without, e
unfoldable pub earliest : (ℕ → ℕ) → ℕ → ℕ → Check
earliest rule a e = first_of rule a (e - a)
