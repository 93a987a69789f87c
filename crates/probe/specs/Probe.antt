-- The calls on plain words: the four words of each answer, and every word that each call leaves.
use Rattle.std.specs.Prelude.{cond, ◌||◌, List, ◌∷◌, ◌++◌, ℕ, ltb, Float, length, drop}
use Rattle.site.specs.Tables.{site_of}
use Rattle.words.specs.Words.{padded}
use Rattle.tables.specs.Checks.{tables_check}
use Rattle.sheet.specs.Read.{read_number, read_values}
use Rattle.sheet.specs.Text.{sheet_text}
use Rattle.search.specs.Outcome.{Outcome, answer_number, answer_values}
use Rattle.join.specs.Join.{join_of}
use Rattle.reader.specs.Answers.{sheet_values, reading_at, offsets_by, codes_by}
use Rattle.writer.specs.Writes.{writing_number, writing_values, answer_by, text_by}
use Rattle.heat.specs.Answers.{cell_number, cell_values, cell_value, cell_of}

-- ---- four words

-- an answer in words: its number, its values, and zeros behind them
unfoldable pub four_words : ℕ → List ℕ → List ℕ
four_words number values = padded 4 (number ∷ values)

-- they stand at the front of the lent answer, the rest is as it was
abbrev pub at_front : List ℕ → List ℕ → List ℕ
at_front words old = words ++ drop 4 old

-- ---- what a call leaves: nothing is done where the answer has under four words

-- the join's three buffers, and the answer
pub record AfterJoin : Type 0 where
  pub list : List ℕ
  pub work : List ℕ
  pub trail : List ℕ
  pub answer : List ℕ

-- the four of them
abbrev pub after_join : List ℕ → List ℕ → List ℕ → List ℕ → AfterJoin
after_join list work trail answer = record { list = list; work = work; trail = trail; answer = answer }

-- the outcome of a join, in words
abbrev pub join_left : Outcome → List ℕ → AfterJoin
join_left o old = after_join o.list o.work o.trail (at_front (four_words (answer_number o.answer) (answer_values o.answer)) old)

-- what `probe_join` leaves
unfoldable pub probe_join : ℕ → List ℕ → List ℕ → List ℕ → List ℕ → List ℕ → List ℕ → AfterJoin
probe_join k offsets codes list work trail old =
    cond (ltb (length old) 4) (after_join list work trail old) (join_left (join_of k offsets codes list work trail) old)

-- the reader's two tables, and the answer
pub record AfterRead : Type 0 where
  pub offsets : List ℕ
  pub codes : List ℕ
  pub answer : List ℕ

-- the three of them
abbrev pub after_read : List ℕ → List ℕ → List ℕ → AfterRead
after_read offsets codes answer = record { offsets = offsets; codes = codes; answer = answer }

-- what `probe_read` leaves
unfoldable pub probe_read : List ℕ → List ℕ → List ℕ → List ℕ → AfterRead
probe_read sheet offsets codes old =
    let x = reading_at offsets codes sheet in
    let answer = at_front (four_words (read_number x) (read_values sheet_values x)) old in
    cond (ltb (length old) 4)
    (after_read offsets codes old)
    (after_read (padded (length offsets) (offsets_by x)) (padded (length codes) (codes_by x)) answer)

-- the writer's text, and the answer
pub record AfterWrite : Type 0 where
  pub text : List ℕ
  pub answer : List ℕ

-- the two of them
abbrev pub after_write : List ℕ → List ℕ → AfterWrite
after_write text answer = record { text = text; answer = answer }

-- what `probe_write` leaves
unfoldable pub probe_write : ℕ → List ℕ → List ℕ → List ℕ → List ℕ → AfterWrite
probe_write k offsets codes text old =
    let x = tables_check k offsets codes in
    let s = sheet_text k (site_of offsets codes) in
    let r = answer_by x s (length text) in
    cond (ltb (length old) 4)
    (after_write text old)
    (after_write (text_by x s text) (at_front (four_words (writing_number r) (writing_values r)) old))

-- the words for the cell's value, and the answer
pub record AfterCell : Type 0 where
  pub value : List Float
  pub answer : List ℕ

-- the two of them
abbrev pub after_cell : List Float → List ℕ → AfterCell
after_cell value answer = record { value = value; answer = answer }

-- what `probe_cell` leaves: the value at the front; nothing is done either where there is no word for it
unfoldable pub probe_cell : ℕ → List ℕ → ℕ → ℕ → ℕ → List Float → List ℕ → AfterCell
probe_cell contexts list entries first second value old =
    let r = cell_of contexts list entries first second in
    cond (ltb (length old) 4 || ltb (length value) 1)
    (after_cell value old)
    (after_cell (cell_value r ∷ drop 1 value) (at_front (four_words (cell_number r) (cell_values r)) old))
