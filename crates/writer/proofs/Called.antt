-- The three ways of `write`, by what the checks say.
use mathlib.Core.Path.{◌≡◌, refl, ap, ◌∙◌}
use mathlib.Core.List.{List, ◌++◌}
use Prim.Native.Nat.{ℕ, ◌-◌, ◌≤◌}
use native.Mathlib.Nat.{zero-add}
use native.Mathlib.Omega.{arith}
use borrow.Author.Tests.{lt-ltb, le-ltb}
use lib.ListN.{length, take, replicate}
use Rattle.words.specs.Words.{padded}
use Rattle.site.specs.Tables.{site_of}
use Rattle.sheet.specs.Text.{sheet_text}
use Rattle.tables.specs.Checks.{tables_check}
use Rattle.tables.specs.Check.{Check}
use Rattle.tables.specs.Check as check
use Rattle.pen.specs.declared.Pen.{Pen}
use Rattle.pen.specs.Added.{Penned}
use Rattle.pen.specs.Added.{On, Full}
use Rattle.pen.specs.Lines.{front_pen}
use Rattle.pen.specs.Added.{Added}
use Rattle.writer.specs.Writes.{Written, Refused}
use Rattle.writer.specs.Writes.{answer_by, text_by}
use Rattle.writer.specs.Calls.{Writes}

-- there is a place behind the lines
pub written_fits : {text old now : List ℕ} {r : Penned} → Added text old now (front_pen old) r → {q : Pen} → r ≡ On q → q.place ≤ length now
written_fits w {q} f = let h = w.on q f in omega (arith, h.fits)

module _ (k : ℕ) (offsets codes old : List ℕ) where
  -- the sheet
  abbrev text : List ℕ
  text = sheet_text k (site_of offsets codes)

  -- refused by the checks
  pub write_refused : {n p : ℕ} → check.Refused n p ≡ tables_check k offsets codes → Writes k offsets codes old (Refused n p) old
  unfolding answer_by text_by
  write_refused e = record { answer = rw (← e) refl; text_is = rw (← e) refl }

  -- the tables that were accepted are those that were lent
  module _ (e : check.Fine ≡ tables_check k offsets codes) {os cs now : List ℕ} {r : Penned} (same : (os ≡ offsets) × (cs ≡ codes))
      (v : Added (sheet_text k (site_of os cs)) old now (front_pen old) r) where
    w : Added text old now (front_pen old) r
    w = rw (same.0, same.1) at v

    -- no room
    pub write_full : r ≡ Full → {out : List ℕ} → out ≡ take 0 now ++ replicate (length now - 0) 0 → Writes k offsets codes old (Refused 12 0) out
    unfolding answer_by text_by padded
    write_full f o =
        let l = lt-ltb (length old) (length text) (w.full f) in
        record { answer = rw (← e, l) refl; text_is = rw (← e, l) (o ∙ rw w.long) }

    -- written
    pub write_done : {z : Pen} → r ≡ On z → {out : List ℕ} → out ≡ take z.place now ++ replicate (length now - z.place) 0 → Writes k offsets codes old (Written z.place) out
    unfolding answer_by text_by padded
    write_done {z} f o =
        let h = w.on z f in
        let m : z.place ≡ length text = h.place ∙ zero-add (length text) in
        let t : take (length text) now ≡ text = rw m at h.front in
        let l = le-ltb (length old) (length text) (omega (arith, h.fits, h.long)) in
        record { answer = rw (← e, l) (ap Written m); text_is = rw (← e, l) (o ∙ rw (m, t, w.long)) }
