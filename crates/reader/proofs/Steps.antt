-- The reading of a sheet line by line: each line's reading is a refusal, which is the sheet's, or what stands behind it is read.
-- s is the sheet; lo offset words and lc code words are lent.
use mathlib.Core.Path.{◌≡◌, refl, sym, ◌∙◌}
use mathlib.Core.List.{List}
use Prim.Native.Nat.{ℕ, ◌+◌, ◌≤◌, ◌<◌, min, zero-le}
use native.Mathlib.Omega.{arith}
use lib.ListN.{length}
use Rattle.sheet.specs.Read.{Read, value, refused, ◌then◌}
use Rattle.sheet.specs.Number.{number_of}
use Rattle.sheet.specs.Text.{k_key, contexts_key}
use Rattle.sheet.specs.Reading.{Sheet, Line, behind, read_sheet}
use Rattle.site.specs.Tables.{offsets_of, all_codes}
use Rattle.sheet.proofs.Lines.{lines_count, behind_small}
use Rattle.sheet.proofs.Tables.{offsets_length}
use Rattle.reader.specs.Part.{Part}
use Rattle.reader.specs.Part as part
use Rattle.reader.specs.Reading.{Reading}
use Rattle.reader.specs.Reading as reading
use Rattle.reader.specs.Answers.{reading_of, offsets_by, codes_by}
use Rattle.reader.specs.Parts.{part_by, line_by, itself, codes_in, number_line, lines_from, read_rest, whole_by}
use Rattle.reader.specs.Fronts.{Held, Taken}
use Rattle.reader.proofs.Enums.{line_value, line_refused}
use Rattle.reader.proofs.Ends.{Placed, line_placed}

-- a refusal is the whole answer, and nothing is asked of the tables
taken_refused : {x : Read Sheet} {n p : ℕ} → x ≡ refused n p → {r : Part} → r ≡ part.Refused n p → (k c : ℕ) {z : Reading} → z ≡ whole_by k c r
    → {offsets codes : List ℕ} → Taken x offsets codes z
unfolding whole_by reading_of offsets_by codes_by
taken_refused e f k c g = record { answer = g ∙ rw (e, f); offsets_front = rw e; codes_front = rw e }

-- the sheet of k, and of the contexts of a reading y: n are owed, and n are read
taken_by : (k n end : ℕ) (y : Read (List (List ℕ))) {offsets codes : List ℕ} {r : Part} → ((site : List (List ℕ)) → y ≡ value site → length site ≡ n)
    → Held y end offsets codes r → Taken (y then λ site. value (record { k = k; site = site })) offsets codes (whole_by k n (part_by codes_in end y))
unfolding whole_by part_by reading_of offsets_by codes_by
taken_by k n end (refused c p) count H = record { answer = refl; offsets_front = refl; codes_front = refl }
taken_by k n end (value site) count H =
    let z : length (offsets_of site) ≡ length site + 1 = omega (arith, offsets_length 0 site) in
    record {
      answer = λ i. reading.Sheet k (sym (count site refl) i) (length (all_codes site));
      offsets_front = rw z (H.contexts site refl);
      codes_front = H.codes_front site refl;
    }

-- r is the reading of the `k=` line
module _ (lo lc : ℕ) (s : List ℕ) {r : Part} (a : r ≡ line_by itself (number_line k_key 65536 0 s)) where
  -- a refusal is the sheet's
  pub k_refused : {n p : ℕ} → r ≡ part.Refused n p → {z : Reading} → z ≡ whole_by 0 0 r → {offsets codes : List ℕ}
      → Taken (read_sheet lo lc s) offsets codes z
  unfolding read_sheet
  k_refused e g = taken_refused (rw (line_refused itself _ (sym a ∙ e))) e 0 0 g

  module _ {k next : ℕ} (e : r ≡ part.Read k next) where
    -- a number and the place behind it
    k_line : (l : Line ℕ) × (number_line k_key 65536 0 s ≡ value l) × (k ≡ l.got) × (next ≡ l.next)
    k_line = line_value itself _ (sym a ∙ e)

    -- the line has its place
    k_placed : Placed (behind k_key (number_of 65536)) s 0 k_line.0
    k_placed = line_placed _ s 0 zero-le k_line.1

    -- the place behind it is within the sheet
    pub k_within : next ≤ length s
    k_within = rw k_line.3 k_placed.within

    -- and who reads the rest from there, reads the sheet
    pub k_read : {z : Reading} {offsets codes : List ℕ} → Taken (read_rest lo lc k next s) offsets codes z
        → Taken (read_sheet lo lc s) offsets codes z
    unfolding read_sheet read_rest
    k_read T = rw (k_line.1, k_placed.rest, ← k_line.2, ← k_line.3) T

-- r is the reading of the `contexts=` line, which begins at the place `at`
module _ (lo lc k : ℕ) (s : List ℕ) (at : ℕ) {room : ℕ} (q : room ≡ min lo 257)
    {r : Part} (a : r ≡ line_by itself (number_line contexts_key room at s)) where
  -- the reading, by the offset words that were lent
  is_read : line_by itself (number_line contexts_key (min 257 lo) at s) ≡ r
  is_read = let m : room ≡ min 257 lo = omega arith in sym (a ∙ rw m)

  -- a refusal is that of the rest
  pub contexts_refused : {n p : ℕ} → r ≡ part.Refused n p → {z : Reading} → z ≡ whole_by k 0 r → {offsets codes : List ℕ}
      → Taken (read_rest lo lc k at s) offsets codes z
  unfolding read_rest
  contexts_refused e g = taken_refused (rw (line_refused itself _ (is_read ∙ e))) e k 0 g

  module _ (h : at ≤ length s) {n next : ℕ} (e : r ≡ part.Read n next) where
    -- a number and the place behind it
    c_line : (l : Line ℕ) × (number_line contexts_key (min 257 lo) at s ≡ value l) × (n ≡ l.got) × (next ≡ l.next)
    c_line = line_value itself _ (is_read ∙ e)

    -- the line has its place
    c_placed : Placed (behind contexts_key (number_of (min 257 lo))) s at c_line.0
    c_placed = line_placed _ s at h c_line.1

    -- the place behind it is within the sheet, and so many contexts have room
    pub lines_begin : (next ≤ length s) × (n < min 257 lo)
    lines_begin = (rw c_line.3 c_placed.within, rw c_line.2 (behind_small _ contexts_key _ _ c_placed.text).fits)

    -- and who reads so many `c=` lines from there, reads the rest
    pub lines_read : (end : ℕ) {offsets codes : List ℕ} {last : Part} → Held (lines_from lc n next s) end offsets codes last
        → {z : Reading} → z ≡ whole_by k n last → Taken (read_rest lo lc k at s) offsets codes z
    unfolding read_rest
    lines_read end H g =
        let T = taken_by k n end (lines_from lc n next s) (λ site. lines_count _ n 0 next _) H in
        rw (g, H.answer, c_line.1, c_placed.rest, ← c_line.2, ← c_line.3) T
