-- When the writer refuses, and where: 1 to 5 as the tables are refused, then 12 for a text that does not fit.
use Rattle.std.specs.Prelude.{List, ℕ, ◌<◌, length}
use Rattle.site.specs.Tables.{site_of}
use Rattle.sheet.specs.Text.{sheet_text}
use Rattle.tables.specs.Refusals.{Broken, Unbroken}

-- the cause of a refusal, with so many bytes of text lent
pub data WriteCause (k : ℕ) (offsets codes : List ℕ) (room : ℕ) : ℕ → ℕ → Type 0 where
  tables : {n p : ℕ} → Broken k offsets codes n p → WriteCause k offsets codes room n p
  text_room : Unbroken k offsets codes → room < length (sheet_text k (site_of offsets codes)) → WriteCause k offsets codes room 12 0
