-- When a cell is refused, and where, in the paper's words and without a loop.
use Rattle.std.specs.Prelude.{List, ◌⊎◌, ◌≡◌, ℕ, ◌*◌, ◌≤◌, ◌<◌, length}
use Rattle.entries.specs.Entries.{width, entry_at}
use Rattle.entries.specs.declared.Entry.{Entry}
use Rattle.heat.specs.Answers.{CellCall}

-- the contexts of an entry are not rising and below the contexts, or its shared is 0 or above its union
abbrev pub Wrong : ℕ → Entry → Type 0
Wrong contexts e = (e.higher.0 ≤ e.lower.0) ⊎ ((contexts ≤ e.higher.0) ⊎ ((e.shared ≡ 0) ⊎ (e.union < e.shared)))

-- the entry i of a list is wrong
abbrev pub WrongAt : ℕ → List ℕ → ℕ → Type 0
WrongAt contexts list i = Wrong contexts (entry_at list (width * i))

-- why there is no cell: the cause of a refusal. Each is looked at after those above it
pub data NoCell (contexts : ℕ) (list : List ℕ) (n first second : ℕ) : ℕ → ℕ → Type 0 where
  first_number : contexts ≤ first → NoCell contexts list n first second 13 0
  second_number : first < contexts → contexts ≤ second → NoCell contexts list n first second 13 1
  count : first < contexts → second < contexts → length list < width * n → NoCell contexts list n first second 17 0
  entry : {p : ℕ} → first < contexts → second < contexts → width * n ≤ length list
      → p < n → WrongAt contexts list p → ((q : ℕ) → q < p → WrongAt contexts list q → ⊥) → NoCell contexts list n first second 17 p

-- the cause of a call's refusal
abbrev pub CellCause : CellCall → ℕ → ℕ → Type 0
CellCause c n p = NoCell c.contexts c.list c.entries c.first c.second n p
