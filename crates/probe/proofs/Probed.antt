-- A call through the probe: nothing is done where the answer has under four words, else the call's own contract and its four words.
use mathlib.Core.List.{List, [], ◌∷◌}
use mathlib.Core.Path.{◌≡◌, refl, ap, ◌∙◌}
use Prim.Native.Nat.{ℕ, ◌≤◌, ◌<◌}
use lib.Ieee.{Float}
use native.Mathlib.Omega.{arith}
use lib.ListN.{length, drop, set}
use borrow.Author.Tests.{lt-ltb, le-ltb}
use Rattle.search.specs.Outcome.{Outcome, outcome, answer_number, answer_values}
use Rattle.search.specs.Answer.{Answer}
use Rattle.join.specs.Join.{join_of}
use Rattle.reader.specs.Answers.{reading_number, reading_values}
use Rattle.reader.specs.Calls.{Reads}
use Rattle.reader.specs.Reading.{Reading}
use Rattle.writer.specs.Writes.{Writing, writing_number, writing_values}
use Rattle.writer.specs.Calls.{Writes}
use Rattle.heat.specs.Answers.{cell_number, cell_values, cell_value, cell_of}
use Rattle.heat.specs.CellAnswer.{CellAnswer}
use Rattle.probe.specs.Probe.{four_words, at_front, after_join, probe_join, after_read, probe_read, after_write, probe_write, after_cell, probe_cell}

module _ (k : ℕ) (offsets codes list work trail old : List ℕ) where
  pub join_left_lem : length old < 4 → after_join list work trail old ≡ probe_join k offsets codes list work trail old
  unfolding probe_join
  join_left_lem h = rw (lt-ltb (length old) 4 h)

  pub join_told : 4 ≤ length old → (r : Answer) {list' work' trail' answer : List ℕ} → outcome r list' work' trail' ≡ join_of k offsets codes list work trail
      → answer ≡ at_front (four_words (answer_number r) (answer_values r)) old → after_join list' work' trail' answer ≡ probe_join k offsets codes list work trail old
  unfolding probe_join
  join_told h r e q =
      let p = q ∙ ap (λ (o : Outcome). at_front (four_words (answer_number o.answer) (answer_values o.answer)) old) e in
      rw (le-ltb (length old) 4 h) (λ i. after_join (e i).list (e i).work (e i).trail (p i))

module _ (sheet offsets codes old : List ℕ) where
  pub read_left : length old < 4 → after_read offsets codes old ≡ probe_read sheet offsets codes old
  unfolding probe_read
  read_left h = rw (lt-ltb (length old) 4 h)

  pub read_told : 4 ≤ length old → {r : Reading} {offsets' codes' answer : List ℕ} → Reads sheet offsets codes r offsets' codes'
      → answer ≡ at_front (four_words (reading_number r) (reading_values r)) old → after_read offsets' codes' answer ≡ probe_read sheet offsets codes old
  unfolding probe_read
  read_told h R q =
      let p = q ∙ (λ i. at_front (four_words (R.told.0 i) (R.told.1 i)) old) in
      rw (le-ltb (length old) 4 h) (λ i. after_read (R.offsets_are i) (R.codes_are i) (p i))

module _ (k : ℕ) (offsets codes text old : List ℕ) where
  pub write_left : length old < 4 → after_write text old ≡ probe_write k offsets codes text old
  unfolding probe_write
  write_left h = rw (lt-ltb (length old) 4 h)

  pub write_told : 4 ≤ length old → {r : Writing} {text' answer : List ℕ} → Writes k offsets codes text r text'
      → answer ≡ at_front (four_words (writing_number r) (writing_values r)) old → after_write text' answer ≡ probe_write k offsets codes text old
  unfolding probe_write
  write_told h W q =
      let p = q ∙ ap (λ (x : Writing). at_front (four_words (writing_number x) (writing_values x)) old) W.answer in
      rw (le-ltb (length old) 4 h) (λ i. after_write (W.text_is i) (p i))

module _ (contexts : ℕ) (list : List ℕ) (entries first second : ℕ) (value : List Float) (old : List ℕ) where
  pub cell_left : length old < 4 → after_cell value old ≡ probe_cell contexts list entries first second value old
  unfolding probe_cell
  cell_left h = rw (lt-ltb (length old) 4 h)

  module _ (h : 4 ≤ length old) where
    pub no_word : length value < 1 → after_cell value old ≡ probe_cell contexts list entries first second value old
    unfolding probe_cell
    no_word l = rw (le-ltb (length old) 4 h, lt-ltb (length value) 1 l)

    first_set : (vs : List Float) (v : Float) → 1 ≤ length vs → set vs 0 v ≡ v ∷ drop 1 vs
    first_set [] v l = absurd (omega arith)
    first_set (x ∷ xs) v l = refl

    pub cell_told : 1 ≤ length value → {r : CellAnswer} {v : Float} {answer : List ℕ} → r ≡ cell_of contexts list entries first second → v ≡ cell_value r
        → answer ≡ at_front (four_words (cell_number r) (cell_values r)) old → after_cell (set value 0 v) answer ≡ probe_cell contexts list entries first second value old
    unfolding probe_cell
    cell_told l {r} {v} e f q =
        let x = first_set value v l ∙ ap (λ (v : Float). v ∷ drop 1 value) (f ∙ ap cell_value e) in
        let y = q ∙ ap (λ (r : CellAnswer). at_front (four_words (cell_number r) (cell_values r)) old) e in
        rw (le-ltb (length old) 4 h, le-ltb (length value) 1 l) (λ i. after_cell (x i) (y i))
