-- What the call's answer says of the text it leaves: for whoever calls, without the definitions' text.
use mathlib.Core.Path.{◌≡◌, refl, sym, ap, ◌∙◌}
use mathlib.Core.List.{List, [], ◌∷◌}
use Prim.Native.Nat.{ℕ, ◌≤◌, ◌<◌}
use native.Mathlib.Omega.{arith}
use borrow.Author.Tests.{lt-ltb, le-ltb}
use lib.ListN.{length}
use Rattle.words.specs.Words.{padded}
use Rattle.words.proofs.Split.{by_le}
use Rattle.tables.specs.Check.{Check}
use Rattle.tables.specs.Check as check
use Rattle.site.specs.Tables.{site_of}
use Rattle.sheet.specs.Text.{sheet_text}
use Rattle.tables.specs.Checks.{tables_check}
use Rattle.tables.specs.Refusals.{Unbroken}
use Rattle.tables.proofs.Refusals.{refused_exactly, fine_exactly, breaks_number}
use Rattle.writer.specs.Writes.{Writing}
use Rattle.writer.specs.Writes.{Written, Refused}
use Rattle.writer.specs.Writes.{writing_number, writing_values, WritingTells, answer_by, text_by}
use Rattle.writer.specs.Calls.{Writes}
use Rattle.writer.specs.Refusals.{WriteCause, tables, text_room}

-- tables that pass 1 to 5 are written where the text has room
pub written_where : (x : Check) (bs old : List ℕ) → x ≡ check.Fine → length bs ≤ length old → (answer_by x bs (length old) ≡ Written (length bs)) × (text_by x bs old ≡ padded (length old) bs)
unfolding answer_by text_by
written_where x bs old e h = rw (e, le-ltb (length old) (length bs) h) (refl, refl)

-- and what was written are tables that pass 1 to 5, and their text, with zeros behind it
pub written_means : (x : Check) (bs old : List ℕ) {n : ℕ} → Written n ≡ answer_by x bs (length old) → (x ≡ check.Fine) × (n ≡ length bs) × (text_by x bs old ≡ padded (length old) bs)
unfolding answer_by
written_means (check.Refused m p) bs old e = let z : ◌≡◌ {A = ℕ} 0 1 = cc in absurd (omega arith)
written_means check.Fine bs old {n} e =
    by_le (length bs) (length old)
    (λ l. let q : Written n ≡ Written (length bs) = rw (le-ltb (length old) (length bs) l) at e in let f : n ≡ length bs = cc in (refl, f, (written_where check.Fine bs old refl l).1))
    (λ l. let q : Written n ≡ Refused 12 0 = rw (lt-ltb (length old) (length bs) l) at e in let z : ◌≡◌ {A = ℕ} 0 1 = cc in absurd (omega arith))

-- ---- what an answer tells, by its number and its value

pub written_tells : {r : Writing} {n : ℕ} → r ≡ Written n → WritingTells r 0 (n ∷ [])
written_tells e = (ap writing_number e, ap writing_values e)

pub refused_told : {r : Writing} {n p : ℕ} → r ≡ Refused n p → WritingTells r n (p ∷ [])
refused_told e = (ap writing_number e, ap writing_values e)

-- a number above 0 is that of a refusal
pub told_refused : (r : Writing) {n p : ℕ} → 0 < n → WritingTells r n (p ∷ []) → r ≡ Refused n p
told_refused (Written m) h t = absurd (omega (arith, t.0))
told_refused (Refused a b) {n} {p} h t = let q : b ≡ p = cc t.1 in λ i. Refused (t.0 i) (q i)

module _ {k : ℕ} {os cs text : List ℕ} {r : Writing} {t : List ℕ} (W : Writes k os cs text r t) where
  abbrev sheet : List ℕ
  sheet = sheet_text k (site_of os cs)

  -- the three ways of the call
  by_checks : {n p : ℕ} → tables_check k os cs ≡ check.Refused n p → (r ≡ Refused n p) × (t ≡ text)
  unfolding answer_by text_by
  by_checks e = (W.answer ∙ rw e, W.text_is ∙ rw e)

  by_room : tables_check k os cs ≡ check.Fine → length text < length sheet → (r ≡ Refused 12 0) × (t ≡ padded (length text) [])
  unfolding answer_by text_by
  by_room e h = (W.answer ∙ rw (e, lt-ltb (length text) (length sheet) h), W.text_is ∙ rw (e, lt-ltb (length text) (length sheet) h))

  by_none : tables_check k os cs ≡ check.Fine → length sheet ≤ length text → (r ≡ Written (length sheet)) × (t ≡ padded (length text) sheet)
  by_none e h = let w = written_where (tables_check k os cs) sheet text e h in (W.answer ∙ w.0, W.text_is ∙ w.1)

  -- a refusal has its cause
  pub refused_cause : {n p : ℕ} → r ≡ Refused n p → WriteCause k os cs (length text) n p
  refused_cause {n} {p} e = go (tables_check k os cs) refl
    where
      at : {m q : ℕ} → Refused m q ≡ Refused n p → WriteCause k os cs (length text) m q → WriteCause k os cs (length text) n p
      at {m} {q} same c = let a : m ≡ n = cc same in let b : q ≡ p = cc same in rw (← a, ← b) c

      go : (c : Check) → tables_check k os cs ≡ c → WriteCause k os cs (length text) n p
      go (check.Refused m q) f = at (sym (by_checks f).0 ∙ e) (tables ((refused_exactly k os cs m q).0 f))
      go check.Fine f = by_le (length sheet) (length text)
          (λ h. let z : ◌≡◌ {A = ℕ} 0 1 = cc (sym (by_none f h).0 ∙ e) in absurd (omega arith))
          (λ h. at (sym (by_room f h).0 ∙ e) (text_room ((fine_exactly k os cs).0 f) h))

  -- a cause is refused
  pub cause_refused : {n p : ℕ} → WriteCause k os cs (length text) n p → r ≡ Refused n p
  cause_refused {n} {p} (tables b) = (by_checks ((refused_exactly k os cs n p).1 b)).0
  cause_refused (text_room a h) = (by_room ((fine_exactly k os cs).1 a) h).0

  -- tables that break no rule are written where the text has room
  pub accepted_written : Unbroken k os cs → length sheet ≤ length text → WritingTells r 0 (length sheet ∷ []) × (t ≡ padded (length text) sheet)
  accepted_written a h = let w = by_none ((fine_exactly k os cs).1 a) h in (written_tells w.0, w.1)

  -- and what is told as written are such tables, with their text
  pub told_written : {n : ℕ} → WritingTells r 0 (n ∷ []) → Unbroken k os cs × (n ≡ length sheet) × (t ≡ padded (length text) sheet)
  told_written {n} e = go (tables_check k os cs) refl
    where
      go : (c : Check) → tables_check k os cs ≡ c → Unbroken k os cs × (n ≡ length sheet) × (t ≡ padded (length text) sheet)
      go (check.Refused m q) f =
          let z : m ≡ 0 = sym (ap writing_number (by_checks f).0) ∙ e.0 in
          absurd (omega (arith, z, (breaks_number k os cs m q ((refused_exactly k os cs m q).0 f).here).0))
      go check.Fine f = by_le (length sheet) (length text)
          (λ h. let w = by_none f h in let l : n ≡ length sheet = cc (sym e.1 ∙ ap writing_values w.0) in ((fine_exactly k os cs).0 f, l, w.1))
          (λ h. let z : ◌≡◌ {A = ℕ} 12 0 = sym (ap writing_number (by_room f h).0) ∙ e.0 in absurd (omega arith))

  -- where nothing is a cause, the sheet is written
  pub none_written : ((n p : ℕ) → WriteCause k os cs (length text) n p → ⊥) → WritingTells r 0 (length sheet ∷ []) × (t ≡ padded (length text) sheet)
  none_written no-cause = go (tables_check k os cs) refl
    where
      go : (c : Check) → tables_check k os cs ≡ c → WritingTells r 0 (length sheet ∷ []) × (t ≡ padded (length text) sheet)
      go (check.Refused m q) f = absurd (no-cause m q (tables ((refused_exactly k os cs m q).0 f)))
      go check.Fine f = by_le (length sheet) (length text)
          (λ h. let w = by_none f h in (written_tells w.0, w.1))
          (λ h. absurd (no-cause 12 0 (text_room ((fine_exactly k os cs).0 f) h)))

  -- ---- the text after a refusal

  -- as it was after 1 to 5, and zero after 12
  pub refused_unchanged : {n p : ℕ} → r ≡ Refused n p → (n ≡ 12 → ⊥) → t ≡ text
  refused_unchanged e not-12 = at (refused_cause e) not-12
    where
      at : {n q : ℕ} → WriteCause k os cs (length text) n q → (n ≡ 12 → ⊥) → t ≡ text
      at {n} {q} (tables b) z = (by_checks ((refused_exactly k os cs n q).1 b)).1
      at (text_room a h) z = absurd (z refl)

  pub refused_emptied : {p : ℕ} → r ≡ Refused 12 p → t ≡ padded (length text) []
  refused_emptied {p} e = at (refused_cause e) refl
    where
      at : {n q : ℕ} → WriteCause k os cs (length text) n q → n ≡ 12 → t ≡ padded (length text) []
      at {n} {q} (tables b) z = absurd (omega (arith, (breaks_number k os cs n q b.here).1))
      at (text_room a h) z = (by_room ((fine_exactly k os cs).1 a) h).1
