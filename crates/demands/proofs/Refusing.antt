-- What the records of reader, writer and the call for one cell say of refusals: each has its cause, what has a cause is refused, and the buffers after it.
use mathlib.Core.List.{List, [], ◌∷◌}
use mathlib.Core.Path.{◌≡◌, refl, sym, ap, ◌∙◌}
use Prim.Native.Nat.{ℕ}
use native.Mathlib.Nat.{sub-zero}
use native.Mathlib.Omega.{arith}
use lib.ListN.{length}
use Rattle.words.specs.Words.{padded}
use Rattle.sheet.specs.Read.{Read, value, refused, read_values}
use Rattle.sheet.specs.Reading.{Sheet}
use Rattle.sheet.proofs.Accepted.{accepts}
use Rattle.sheet.proofs.Meanings.{refusal_means, meaning_refused}
use Rattle.search.specs.Outcome.{zeros}
use Rattle.reader.specs.Answers.{ReadingTells, sheet_values, reading_at, offsets_by, codes_by}
use Rattle.reader.specs.Calls.{Reads}
use Rattle.writer.specs.Calls.{Writes}
use Rattle.writer.proofs.Answers.{refused_told, told_refused, refused_cause, cause_refused, none_written, refused_unchanged, refused_emptied}
use Rattle.heat.specs.Answers.{CellCall, Shows}
use Rattle.heat.proofs.Refusing as cell
use Rattle.demands.specs.Heat.{CellRefuses}
use Rattle.demands.specs.Sheets.{ReadCall, ReadRefuses, WriteCall, WriteRefuses}

-- no words and zeros behind them are zeros
pub none_zeros : (old : List ℕ) → padded (length old) [] ≡ zeros old
unfolding padded
none_zeros old = rw (sub-zero (length old)) refl

-- a reading with one value is a refusal
one_value : (x : Read Sheet) {p : ℕ} → read_values sheet_values x ≡ p ∷ [] → (n : ℕ) × (x ≡ refused n p)
one_value (value s) e = absurd (omega (arith, ap length e))
one_value (refused n q) {p} e = let z : q ≡ p = cc e in (n, ap (refused n) z)

module _ {r : ReadCall} (R : Reads r.sheet r.offsets r.codes r.answer r.offsets' r.codes') where
  -- what is told as a refusal is refused
  told_refusal : {n p : ℕ} → ReadingTells r.answer n (p ∷ []) → reading_at r.offsets r.codes r.sheet ≡ refused n p
  told_refusal {n} {p} t =
      let v = one_value (reading_at r.offsets r.codes r.sheet) (sym R.told.1 ∙ t.1) in
      let m : n ≡ v.0 = sym t.0 ∙ rw v.1 at R.told.0 in
      v.1 ∙ ap (λ (a : ℕ). refused a p) (sym m)

  pub read_refuses : ReadRefuses r
  unfolding offsets_by codes_by
  read_refuses =
      let lo = length r.offsets in
      let lc = length r.codes in
      record {
        exactly = λ n p. (λ t. refusal_means lo lc r.sheet (told_refusal t), λ m. rw (meaning_refused lo lc r.sheet m) at R.told);
        accepted = λ k site e f. rw (accepts lo lc r.sheet k site e f) at R.told;
        emptied = λ n p t. (R.offsets_are ∙ rw (told_refusal t) (none_zeros r.offsets), R.codes_are ∙ rw (told_refusal t) (none_zeros r.codes));
      }

module _ {w : WriteCall} (W : Writes w.k w.offsets w.codes w.text w.answer w.text') where
  pub write_refuses : WriteRefuses w
  write_refuses = record {
    exactly = λ n p h. (λ e. refused_cause W (told_refused w.answer h e), λ c. refused_told (cause_refused W c));
    accepted = none_written W;
    unchanged = λ n p h not-12 e. refused_unchanged W (told_refused w.answer h e) not-12;
    emptied = λ p e. refused_emptied W (told_refused w.answer (omega arith) e) ∙ none_zeros w.text;
  }

pub cell_refuses : {c : CellCall} → Shows c → CellRefuses c
cell_refuses S = record { exactly = λ n p h. (cell.refused_cause S h, cell.cause_refused S); accepted = cell.none_shown S }
