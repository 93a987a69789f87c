-- The library's answers as the host's values.
use mathlib.Core.List.{List}
use mathlib.Core.Path.{◌≡◌, refl, ap, ◌∙◌}
use Prim.Native.Nat.{ℕ, ◌+◌}
use lib.Ieee.{Float}
use Rattle.sheet.specs.Read.{Read, value, refused}
use Rattle.listing.specs.Answers.{listing_by}
use Rattle.listing.specs.Calls.{Lists}
use Rattle.listing.specs.Answer.{Listing, Text, Refused}
use Rattle.std.specs.Prelude.{Result}
use Rattle.refusal.specs.declared.Refusal.{Refusal}
use Rattle.heat.specs.declared.Cell.{Cell}
use Rattle.heat.specs.Answers.{cell_of, cell_value, value_shown}
use Rattle.heat.specs.CellAnswer.{cell_said}
use Rattle.heat.proofs.Rounded.{value_told}
use Rattle.host.specs.Call.{host_value, Hosts, host_cell, HostsCell}

-- the value of the library's answer
unfoldable pub host_value_by : Listing → ℕ
host_value_by (Text n) = n
host_value_by (Refused n p) = 1000000 + n

-- the answer for a reading has the reading's value
pub value_same : (x : Read (List ℕ)) → host_value_by (listing_by x) ≡ host_value x
unfolding listing_by host_value_by host_value
value_same (value text) = refl
value_same (refused n p) = refl

module _ {sheet text text₂ : List ℕ} {r : Listing} (w : Lists sheet text r text₂) where
  -- the value of the answer, and the text as it is left
  pub hosted : {v : ℕ} → v ≡ host_value_by r → Hosts sheet text v text₂
  hosted e = record { value_is = e ∙ ap host_value_by w.answer ∙ value_same _; text_is = w.text_is }

-- the kind and the value of a cell
pub hosted_cell : (contexts : ℕ) (list : List ℕ) (entries first second : ℕ) (r : Result Cell Refusal) {n : ℕ} {v : Float}
    → cell_said r ≡ cell_of contexts list entries first second → v ≡ value_shown r → n ≡ host_cell (cell_said r)
    → HostsCell contexts list entries first second n v
hosted_cell contexts list entries first second r e f g = record { kind_is = g ∙ ap host_cell e; value_is = f ∙ value_told r ∙ ap cell_value e }
