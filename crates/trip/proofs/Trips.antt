-- Both round trips, over the contracts of the two calls as records: `Reads` and `Writes`. The crate `demands` says them of the contracts themselves.
use mathlib.Core.Path.{◌≡◌, sym, ◌∙◌}
use mathlib.Core.List.{List, [], ◌∷◌}
use Prim.Native.Nat.{ℕ, ◌+◌, ◌-◌, ◌≤◌}
use lib.ListN.{length, take}
use Rattle.words.specs.Words.{padded}
use Rattle.words.proofs.Words.{padded_front}
use Rattle.site.specs.Tables.{site_of}
use Rattle.sheet.specs.Read.{value}
use Rattle.sheet.specs.Text.{sheet_text}
use Rattle.sheet.specs.Reading.{read_sheet}
use Rattle.sheet.proofs.ReadsBack.{reads_back}
use Rattle.tables.specs.Refusals.{Unbroken}
use Rattle.tables.proofs.Checks.{accepted}
use Rattle.tables.proofs.Refusals.{fine_exactly}
use Rattle.reader.specs.Reading.{Reading}
use Rattle.reader.specs.Answers.{ReadingTells}
use Rattle.reader.specs.Calls.{Reads}
use Rattle.reader.proofs.Answers.{tells_sheet, sheet_tells, reads_answer}
use Rattle.writer.specs.Writes.{Writing}
use Rattle.writer.specs.Writes.{WritingTells}
use Rattle.writer.specs.Calls.{Writes}
use Rattle.writer.proofs.Answers.{told_written, accepted_written}
use Rattle.trip.proofs.Fronts.{sheet_read, fronts, text_of, tables_again}
use Rattle.trip.proofs.Fitting.{written_fits}

-- A sheet that is read, and whose tables break no rule, is written back byte for byte where the text has room:
-- the tables are the words that the reading counts, the answer is the sheet's length, and behind the sheet stand zeros.
pub sheet_back : {sheet offsets codes text : List ℕ} {q : Reading} {k n m : ℕ} {o c : List ℕ} {r : Writing} {t : List ℕ}
    → Reads sheet offsets codes q o c → ReadingTells q 0 (k ∷ n ∷ m ∷ []) → Unbroken k (take (n + 1) o) (take m c)
    → Writes k (take (n + 1) o) (take m c) text r t → length sheet ≤ length text
    → WritingTells r 0 (length sheet ∷ []) × (t ≡ padded (length text) sheet)
sheet_back {sheet} {offsets} {codes} {text} {q} {k} {n} {m} {o} {c} R told fine W room =
    let y = sheet_read (read_sheet (length offsets) (length codes) sheet) (sym (tells_sheet q told) ∙ reads_answer R) in
    let f = fronts (length offsets) (length codes) (read_sheet (length offsets) (length codes) sheet) y.0 y.1 R.offsets_are R.codes_are in
    let u = text_of (length offsets) (length codes) sheet y.0 o c y.1 f in
    let tx : sheet_text k (site_of (take (n + 1) o) (take m c)) ≡ sheet = sym (λ i. sheet_text (y.2 i) (site_of (take (y.3 i + 1) o) (take (y.4 i) c))) ∙ u in
    let w = accepted_written W fine (rw tx room) in
    rw tx at w

-- Tables that are written are read back the same where the lent tables have room:
-- the answer is k and the tables' sizes, and behind the words that were written stand zeros.
pub tables_trip : {k : ℕ} {os cs text : List ℕ} {w : Writing} {n : ℕ} {t offsets codes : List ℕ} {r : Reading} {o c : List ℕ}
    → Writes k os cs text w t → WritingTells w 0 (n ∷ []) → Reads (take n t) offsets codes r o c → length os ≤ length offsets → length cs ≤ length codes
    → ReadingTells r 0 (k ∷ (length os - 1) ∷ length cs ∷ []) × (o ≡ padded (length offsets) os) × (c ≡ padded (length codes) cs)
tables_trip {k} {os} {cs} {text} {w} {n} {t} {offsets} {codes} W told R h g =
    let f = told_written W told in
    let A = accepted k os cs ((fine_exactly k os cs).1 f.0) in
    let tx : take n t ≡ sheet_text k (site_of os cs) = rw (f.2, f.1) (padded_front (length text) (sheet_text k (site_of os cs))) in
    let e : read_sheet (length offsets) (length codes) (take n t) ≡ value (record { k = k; site = site_of os cs }) = rw tx (reads_back (written_fits A (length offsets) (length codes) h g)) in
    let b = tables_again A.sound (read_sheet (length offsets) (length codes) (take n t)) e in
    (sheet_tells (reads_answer R ∙ b.0), R.offsets_are ∙ rw b.1, R.codes_are ∙ rw b.2)
