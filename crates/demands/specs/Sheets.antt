-- What the reader and the writer owe: demand 1, their refusals, and their half of demand 2, that sheets and tables come back.
use Rattle.std.specs.Prelude.{List, [], ◌∷◌, ◌↔◌, ◌≡◌, ℕ, ◌+◌, ◌-◌, ◌≤◌, ◌<◌, length, take}
use Rattle.words.specs.Words.{padded}
use Rattle.site.specs.Site.{Site}
use Rattle.site.specs.Tables.{site_of, all_codes}
use Rattle.tables.specs.Refusals.{Unbroken}
use Rattle.sheet.specs.Text.{sheet_text}
use Rattle.sheet.specs.Fits.{SheetFits}
use Rattle.sheet.specs.Meaning.{Means}
use Rattle.search.specs.Outcome.{zeros}
use Rattle.reader.specs.Reading.{Reading}
use Rattle.reader.specs.Answers.{ReadingTells}
use Rattle.writer.specs.Writes.{Writing, WritingTells}
use Rattle.writer.specs.Refusals.{WriteCause}

-- ---- the calls

-- what a call of `read` is given, what it answers, and its tables at exit
pub record ReadCall : Type 0 where
  pub sheet : List ℕ
  pub offsets : List ℕ
  pub codes : List ℕ
  pub answer : Reading
  pub offsets' : List ℕ
  pub codes' : List ℕ

-- what a call of `write` is given, what it answers, and its text at exit
pub record WriteCall : Type 0 where
  pub k : ℕ
  pub offsets : List ℕ
  pub codes : List ℕ
  pub text : List ℕ
  pub answer : Writing
  pub text' : List ℕ

-- the sheet that it is to write
abbrev pub sheet_of : WriteCall → List ℕ
sheet_of w = sheet_text w.k (site_of w.offsets w.codes)

-- the cause of its refusal
abbrev pub WritingCause : WriteCall → ℕ → ℕ → Type 0
WritingCause w n p = WriteCause w.k w.offsets w.codes (length w.text) n p

-- ---- demand 1

-- the reader: refusals 9 to 11
pub record ReadRefuses (r : ReadCall) : Type 0 where
  -- it refuses with n at p exactly if that is what n means there (sheet/specs/Meaning.antt)
  pub exactly : (n p : ℕ) → ReadingTells r.answer n (p ∷ []) ↔ Means (length r.offsets) (length r.codes) r.sheet n p
  -- the text of k and a site that fit is accepted, and told are k, the contexts and the codes
  pub accepted : (k : ℕ) (site : Site) → r.sheet ≡ sheet_text k site → SheetFits (length r.offsets) (length r.codes) k site
      → ReadingTells r.answer 0 (k ∷ length site ∷ length (all_codes site) ∷ [])
  -- after a refusal both tables are zero
  pub emptied : (n p : ℕ) → ReadingTells r.answer n (p ∷ []) → (r.offsets' ≡ zeros r.offsets) × (r.codes' ≡ zeros r.codes)

-- the writer: refusals 1 to 5, and 12
pub record WriteRefuses (w : WriteCall) : Type 0 where
  -- it refuses with n at p exactly if that has its cause (writer/specs/Refusals.antt)
  pub exactly : (n p : ℕ) → 0 < n → WritingTells w.answer n (p ∷ []) ↔ WritingCause w n p
  -- where nothing is a cause, the sheet is written with zeros behind it, and told is its length
  pub accepted : ((n p : ℕ) → WritingCause w n p → ⊥)
      → WritingTells w.answer 0 (length (sheet_of w) ∷ []) × (w.text' ≡ padded (length w.text) (sheet_of w))
  -- after 1 to 5 the text has not changed, after 12 it is zero
  pub unchanged : (n p : ℕ) → 0 < n → (n ≡ 12 → ⊥) → WritingTells w.answer n (p ∷ []) → w.text' ≡ w.text
  pub emptied : (p : ℕ) → WritingTells w.answer 12 (p ∷ []) → w.text' ≡ zeros w.text

-- ---- demand 2

-- A sheet that is read, telling k, n contexts and m codes, and whose tables break no rule, is written back byte for byte where the
-- text has room: given to `write` are k and the words that were counted.
abbrev pub SheetBack : ReadCall → WriteCall → Type 0
SheetBack r w =
    (n m : ℕ) → ReadingTells r.answer 0 (w.k ∷ n ∷ m ∷ [])
    → take (n + 1) r.offsets' ≡ w.offsets → take m r.codes' ≡ w.codes
    → Unbroken w.k w.offsets w.codes → length r.sheet ≤ length w.text
    → WritingTells w.answer 0 (length r.sheet ∷ []) × (w.text' ≡ padded (length w.text) r.sheet)

-- Tables that are written, telling a text of n bytes, are read back the same where the lent tables have room: given to `read` is that text.
abbrev pub TablesBack : WriteCall → ReadCall → Type 0
TablesBack w r =
    (n : ℕ) → WritingTells w.answer 0 (n ∷ []) → take n w.text' ≡ r.sheet
    → length w.offsets ≤ length r.offsets → length w.codes ≤ length r.codes
    → ReadingTells r.answer 0 (w.k ∷ (length w.offsets - 1) ∷ length w.codes ∷ [])
    × (r.offsets' ≡ padded (length r.offsets) w.offsets)
    × (r.codes' ≡ padded (length r.codes) w.codes)
