-- The call's contract, as a record over inputs and outputs.
use Rattle.std.specs.Prelude.{◌≡◌, List, ℕ, length}
use Rattle.sheet.specs.Read.{read_number, read_values}
use Rattle.words.specs.Words.{padded}
use Rattle.reader.specs.Reading.{Reading}
use Rattle.reader.specs.Answers.{ReadingTells, sheet_values, reading_at, offsets_by, codes_by}

-- `read` of a sheet into lent tables: what the answer tells, and both tables afterwards, with zeros behind the data
pub record Reads (sheet offsets codes : List ℕ) (r : Reading) (offsets₂ codes₂ : List ℕ) : Type 0 where
  -- the reading's number and values
  pub told : ReadingTells r (read_number (reading_at offsets codes sheet)) (read_values sheet_values (reading_at offsets codes sheet))
  pub offsets_are : offsets₂ ≡ padded (length offsets) (offsets_by (reading_at offsets codes sheet))
  pub codes_are : codes₂ ≡ padded (length codes) (codes_by (reading_at offsets codes sheet))
