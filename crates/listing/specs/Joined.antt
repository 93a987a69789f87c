-- What the join tells of a sheet.
use Rattle.std.specs.Prelude.{ℕ, Result}
use Rattle.refusal.specs.declared.Refusal.{Refusal}
use Rattle.refusal.specs.Numbers.{said}
use Rattle.listing.specs.declared.Joined as told

-- k and the three counts, or the number and the place of a refusal
pub data Joined : Type 0 where
  Counts : ℕ → ℕ → ℕ → ℕ → Joined
  Refused : ℕ → ℕ → Joined

-- what a result says of them
abbrev pub joined_said : Result told.Joined Refusal → Joined
joined_said r = said (λ (j : told.Joined). Counts j.k j.found j.events j.met) Refused r
