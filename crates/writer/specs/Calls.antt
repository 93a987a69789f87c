-- The call's contract as a record over its inputs and outputs. Its field `answer` says which case the answer is, since both have one value.
use Rattle.std.specs.Prelude.{◌≡◌, List, ℕ, length}
use Rattle.site.specs.Tables.{site_of}
use Rattle.sheet.specs.Text.{sheet_text}
use Rattle.tables.specs.Checks.{tables_check}
use Rattle.writer.specs.Writes.{Writing}
use Rattle.writer.specs.Writes.{answer_by, text_by}

-- `write` of k and tables into a lent text: the answer, and the text afterwards
pub record Writes (k : ℕ) (offsets codes text : List ℕ) (r : Writing) (text₂ : List ℕ) : Type 0 where
  pub answer : r ≡ answer_by (tables_check k offsets codes) (sheet_text k (site_of offsets codes)) (length text)
  pub text_is : text₂ ≡ text_by (tables_check k offsets codes) (sheet_text k (site_of offsets codes)) text
