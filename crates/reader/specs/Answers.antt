-- A sheet's reading as the call's answer, what the answer tells, and the words that the call leaves.
use Rattle.std.specs.Prelude.{List, [], ◌∷◌, ◌≡◌, ℕ, length}
use Rattle.sheet.specs.Read.{Read, value, refused}
use Rattle.sheet.specs.Reading.{Sheet, read_sheet}
use Rattle.site.specs.Tables.{offsets_of, all_codes}
use Rattle.reader.specs.Reading.{Reading}
use Rattle.reader.specs.Reading as reading

-- the number of an answer: that of its refusal, and 0 where a sheet was read
abbrev pub reading_number : Reading → ℕ
reading_number (reading.Sheet k contexts codes) = 0
reading_number (reading.Refused number place) = number

-- the values of an answer: k, contexts and the number of codes, or the place of its refusal
abbrev pub reading_values : Reading → List ℕ
reading_values (reading.Sheet k contexts codes) = k ∷ contexts ∷ codes ∷ []
reading_values (reading.Refused number place) = place ∷ []

-- an answer tells a number and values
abbrev pub ReadingTells : Reading → ℕ → List ℕ → Type 0
ReadingTells r number values = (reading_number r ≡ number) × (reading_values r ≡ values)

-- the values of a sheet: k, the number of its contexts and that of its codes
abbrev pub sheet_values : Sheet → List ℕ
sheet_values s = s.k ∷ length s.site ∷ length (all_codes s.site) ∷ []

-- the reading of a sheet into lent tables
abbrev pub reading_at : List ℕ → List ℕ → List ℕ → Read Sheet
reading_at offsets codes sheet = read_sheet (length offsets) (length codes) sheet

-- the answer of a reading: k, contexts and the number of codes, or the refusal
unfoldable pub reading_of : Read Sheet → Reading
reading_of (value s) = reading.Sheet s.k (length s.site) (length (all_codes s.site))
reading_of (refused n p) = reading.Refused n p

-- the words at the front of the offsets: none after a refusal
unfoldable pub offsets_by : Read Sheet → List ℕ
offsets_by (value s) = offsets_of s.site
offsets_by (refused n p) = []

-- the words at the front of the codes: none after a refusal
unfoldable pub codes_by : Read Sheet → List ℕ
codes_by (value s) = all_codes s.site
codes_by (refused n p) = []
