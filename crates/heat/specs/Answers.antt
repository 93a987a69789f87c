-- The answer of a call for one cell, as an equation (`cell_of`), and the same of a call in the paper's words (`Shows`).
use Rattle.std.specs.Prelude.{List, [], ◌∷◌, ◌≡◌, ℕ, Float, Result, Ok, Err}
use Rattle.tables.specs.Check.{Check}
use Rattle.tables.specs.Check as check
use Rattle.entries.specs.Entries.{entries}
use Rattle.entries.specs.declared.Entry.{Entry}
use Rattle.heat.specs.Cells.{nought, cell_in}
use Rattle.heat.specs.Checks.{cell_check}
use Rattle.heat.specs.declared.Cell.{Cell}
use Rattle.heat.specs.declared.Cell.TheVariants as cell
use Rattle.heat.specs.CellAnswer.{CellAnswer}
use Rattle.heat.specs.CellAnswer as answer

-- ---- its number and values

-- the number of an answer: that of its refusal, and 0 where there is a cell
abbrev pub cell_number : CellAnswer → ℕ
cell_number (answer.Cell c) = 0
cell_number (answer.Refused number place) = number

-- its value in whole numbers: 0 for a blank cell, 1 for one with a value, or the place of its refusal
abbrev pub cell_values : CellAnswer → List ℕ
cell_values (answer.Cell cell.Blank) = 0 ∷ []
cell_values (answer.Cell (cell.Value v)) = 1 ∷ []
cell_values (answer.Refused number place) = place ∷ []

-- an answer tells a number and values
abbrev pub CellTells : CellAnswer → ℕ → List ℕ → Type 0
CellTells r number values = (cell_number r ≡ number) × (cell_values r ≡ values)

-- the value of its cell, and 0.0 where there is none
unfoldable pub cell_value : CellAnswer → Float
cell_value (answer.Cell cell.Blank) = nought
cell_value (answer.Cell (cell.Value v)) = v
cell_value (answer.Refused number place) = nought

-- the same of what a result holds, whatever it refuses with
abbrev pub value_shown : {E : Type 0} → Result Cell E → Float
value_shown (Ok c) = cell_value (answer.Cell c)
value_shown (Err e) = nought

-- ---- the answer

-- what a check refuses, or a cell
abbrev pub cell_by : Check → Cell → CellAnswer
cell_by check.Fine c = answer.Cell c
cell_by (check.Refused n p) c = answer.Refused n p

-- the checks, then the cell in the first n entries of the list
unfoldable pub cell_of : ℕ → List ℕ → ℕ → ℕ → ℕ → CellAnswer
cell_of contexts list n first second = cell_by (cell_check contexts list n first second) (cell_in first second (entries n list))

-- ---- a call

-- what a call is given, and what it answers
pub record CellCall : Type 0 where
  pub contexts : ℕ
  pub list : List ℕ
  pub entries : ℕ
  pub first : ℕ
  pub second : ℕ
  pub answer : CellAnswer

-- the entries that it counts
abbrev pub cell_entries : CellCall → List Entry
cell_entries c = entries c.entries c.list

-- what the checks say of it
abbrev pub cell_checked : CellCall → Check
cell_checked c = cell_check c.contexts c.list c.entries c.first c.second

-- the contract of the call
pub record Shows (c : CellCall) : Type 0 where
  -- 13 and 17: what the checks say
  pub refused : (n p : ℕ) → cell_checked c ≡ check.Refused n p → c.answer ≡ answer.Refused n p
  -- else the cell of its two contexts
  pub shown : cell_checked c ≡ check.Fine → c.answer ≡ answer.Cell (cell_in c.first c.second (cell_entries c))
