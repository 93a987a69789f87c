-- The host calls: the number that each gets, and every byte and word that it is given back.
use Rattle.std.specs.Prelude.{List, ◌≡◌, ℕ, ◌+◌, Float, length}
use Rattle.words.specs.Words.{padded}
use Rattle.sheet.specs.Read.{Read, value, refused}
use Rattle.listing.specs.Listing.{listing_in}
use Rattle.listing.specs.Answers.{bytes_of}
use Rattle.heat.specs.Answers.{cell_of, cell_value}
use Rattle.heat.specs.declared.Cell.TheVariants as cell
use Rattle.heat.specs.CellAnswer.{CellAnswer}
use Rattle.heat.specs.CellAnswer as answer

-- ---- the listing of a sheet

-- the text's length, or 1,000,000 plus the refusal number
unfoldable pub host_value : Read (List ℕ) → ℕ
host_value (value text) = length text
host_value (refused n p) = 1000000 + n

-- `sazamkhri_listing` of a sheet into a lent buffer: the value, and the buffer afterwards, zero after a refusal and behind a listing
pub record Hosts (sheet text : List ℕ) (r : ℕ) (text₂ : List ℕ) : Type 0 where
  pub value_is : r ≡ host_value (listing_in (length text) sheet)
  pub text_is : text₂ ≡ padded (length text) (bytes_of (listing_in (length text) sheet))

-- ---- one cell of the heat map

-- 0 for a blank cell, 1 for one with a value, or 1,000,000 plus the refusal number
unfoldable pub host_cell : CellAnswer → ℕ
host_cell (answer.Cell cell.Blank) = 0
host_cell (answer.Cell (cell.Value v)) = 1
host_cell (answer.Refused n p) = 1000000 + n

-- `sazamkhri_cell`: its kind, and the value that is given back, 0.0 where there is none
pub record HostsCell (contexts : ℕ) (list : List ℕ) (entries first second r : ℕ) (v : Float) : Type 0 where
  pub kind_is : r ≡ host_cell (cell_of contexts list entries first second)
  pub value_is : v ≡ cell_value (cell_of contexts list entries first second)
