-- The checks of a call for one cell: refusals 13 and 17, in their order.
use Rattle.std.specs.Prelude.{cond, List, ℕ, ◌*◌, ◌/◌, ◌<◌, eqb, ltb, length}
use Rattle.tables.specs.Earliest.{earliest}
use Rattle.tables.specs.Checks.{when, ◌and_then◌}
use Rattle.tables.specs.Check.{Check}
use Rattle.tables.specs.Check.{Fine, Refused}
use Rattle.entries.specs.Entries.{width, entry_at}
use Rattle.entries.specs.declared.Entry.{Entry}

-- 13: a context number that is not below the contexts, the first at place 0, the second at place 1
unfoldable pub numbers_check : ℕ → ℕ → ℕ → Check
numbers_check contexts first second = cond (ltb first contexts) (cond (ltb second contexts) Fine (Refused 13 1)) (Refused 13 0)

-- 17 at 0: more entries than so many words hold
unfoldable pub count_check : ℕ → ℕ → Check
count_check words n = when (ltb (words / width) n) 17 Fine

-- 17: the contexts of an entry are not rising and below the contexts, or its shared is 0 or above its union
unfoldable pub entry_rule : ℕ → Entry → ℕ
entry_rule contexts e =
    cond (ltb e.lower.0 e.higher.0)
    (cond (ltb e.higher.0 contexts) (cond (eqb e.shared 0) 17 (cond (ltb e.union e.shared) 17 0)) 17)
    17

-- of the entry i of a list
unfoldable pub rule_at : ℕ → List ℕ → ℕ → ℕ
rule_at contexts list i = entry_rule contexts (entry_at list (width * i))

-- the earliest of the first n entries that breaks its rule
abbrev pub entries_check : ℕ → List ℕ → ℕ → Check
entries_check contexts list n = earliest (rule_at contexts list) 0 n

-- 13, then 17 for the count, then 17 for the entries
unfoldable pub cell_check : ℕ → List ℕ → ℕ → ℕ → ℕ → Check
cell_check contexts list n first second =
    numbers_check contexts first second and_then (count_check (length list) n and_then entries_check contexts list n)

-- the first n entries have a union each, so each has a quotient
abbrev pub Positive : List ℕ → ℕ → Type 0
Positive list n = (i : ℕ) → i < n → 0 < (entry_at list (width * i)).union
