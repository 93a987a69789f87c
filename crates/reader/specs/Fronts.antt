-- What stands at the front of the tables while a sheet is read. Of a refusal nothing is said: all words are zeroed after it.
use Rattle.std.specs.Prelude.{◌≡◌, List, ◌++◌, ℕ, ◌+◌, ◌≤◌, min, length, take}
use Rattle.sheet.specs.Read.{Read, value}
use Rattle.sheet.specs.Reading.{Sheet}
use Rattle.site.specs.Tables.{offsets_of, all_codes}
use Rattle.reader.specs.Part.{Part}
use Rattle.reader.specs.Reading.{Reading}
use Rattle.reader.specs.Reading as reading
use Rattle.reader.specs.Answers.{reading_of, offsets_by, codes_by}
use Rattle.reader.specs.Parts.{part_by, codes_in}

-- the codes of a reading x stand behind the first `used` codes
pub record Stored (x : Read (List ℕ)) (used : ℕ) (old now : List ℕ) : Type 0 where
  pub room : (cs : List ℕ) → x ≡ value cs → used + length cs ≤ min 4096 (length old)
  pub front : (cs : List ℕ) → x ≡ value cs → take (used + length cs) now ≡ take used old ++ cs

-- the contexts of a reading x that ends at the place `end`: their number of codes, and both tables
pub record Held (x : Read (List (List ℕ))) (end : ℕ) (offsets codes : List ℕ) (r : Part) : Type 0 where
  pub answer : r ≡ part_by codes_in end x
  pub contexts : (site : List (List ℕ)) → x ≡ value site → take (length site + 1) offsets ≡ offsets_of site
  pub codes_front : (site : List (List ℕ)) → x ≡ value site → take (length (all_codes site)) codes ≡ all_codes site

-- the sheet of a reading x: the answer, and both tables
pub record Taken (x : Read Sheet) (offsets codes : List ℕ) (r : Reading) : Type 0 where
  pub answer : r ≡ reading_of x
  pub offsets_front : take (length (offsets_by x)) offsets ≡ offsets_by x
  pub codes_front : take (length (codes_by x)) codes ≡ codes_by x

-- how many offset words hold data: none after a refusal
unfoldable pub offsets_used : Reading → ℕ
offsets_used (reading.Sheet k n m) = n + 1
offsets_used (reading.Refused n p) = 0

-- how many code words hold data
unfoldable pub codes_used : Reading → ℕ
codes_used (reading.Sheet k n m) = m
codes_used (reading.Refused n p) = 0
