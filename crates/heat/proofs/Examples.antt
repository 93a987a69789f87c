-- Worked cells, by computation: one table with one claim.
use mathlib.Core.List.{List, [], ◌∷◌, ◌++◌, map}
use mathlib.Core.Path.{◌≡◌, refl}
use Prim.Native.Nat.{ℕ, ◌-◌}
use lib.ListN.{replicate}
use Rattle.order.specs.Order.{keep, kth}
use Rattle.tables.specs.Earliest.{first_of, earliest}
use Rattle.entries.specs.Entries.{context, width, words, entries_from}
use Rattle.heat.specs.Cells.{quotient, names, entry_for, cell_in}
use Rattle.heat.specs.Checks.{numbers_check, count_check, entry_rule, rule_at, cell_check}
use Rattle.heat.specs.Answers.{cell_of}
use Rattle.heat.specs.CellAnswer.{CellAnswer}
use Rattle.heat.specs.CellAnswer.{Cell, Refused}
use Rattle.heat.specs.declared.Cell.TheVariants.{Blank, Value}

-- contexts, list, number of entries, the two contexts, and the answer
record Case : Type 0 where
  contexts : ℕ
  list : List ℕ
  entries : ℕ
  first : ℕ
  second : ℕ
  answer : CellAnswer

unfoldable case : ℕ → List ℕ → ℕ → ℕ → ℕ → CellAnswer → Case
case contexts list entries first second answer = record { contexts = contexts; list = list; entries = entries; first = first; second = second; answer = answer }

-- an entry's words; no cell looks at its code
unfoldable entry : ℕ → ℕ → ℕ → ℕ → ℕ → List ℕ
entry lower higher shared union code = words (record { lower = context lower; higher = context higher; shared = shared; union = union; code = code })

-- 'Three' with k = 2: two entries, and here words behind them that are one too few for a third
unfoldable three : List ℕ
unfolding entry
three = entry 0 1 4 5 2 ++ entry 1 2 4 5 1 ++ replicate (width - 1) 9

-- one pair twice, and a wrong entry behind: its contexts are equal
unfoldable twice : List ℕ
unfolding entry
twice = entry 0 1 1 3 8 ++ entry 0 1 2 3 7 ++ entry 2 2 1 1 0

unfoldable cases : List Case
unfolding case entry three twice
cases =
    case 3 three 2 0 1 (Cell (Value (quotient 4 5)))
    ∷ case 3 three 2 1 0 (Cell (Value (quotient 4 5)))
    ∷ case 3 three 2 0 2 (Cell Blank)
    ∷ case 3 three 2 1 1 (Cell Blank)
    ∷ case 3 three 1 1 2 (Cell Blank)
    ∷ case 3 three 0 1 2 (Cell Blank)
    ∷ case 3 twice 2 0 1 (Cell (Value (quotient 1 3)))
    ∷ case 3 twice 1 1 0 (Cell (Value (quotient 1 3)))
    ∷ case 0 three 2 0 0 (Refused 13 0)
    ∷ case 3 three 9 3 3 (Refused 13 0)
    ∷ case 3 three 9 2 3 (Refused 13 1)
    ∷ case 3 three 3 0 1 (Refused 17 0)
    ∷ case 2 three 2 0 1 (Refused 17 1)
    ∷ case 2 three 2 1 1 (Refused 17 1)
    ∷ case 3 twice 3 0 1 (Refused 17 2)
    ∷ case 3 (entry 2 1 1 1 0) 1 0 1 (Refused 17 0)
    ∷ case 3 (entry 1 3 1 1 0) 1 0 1 (Refused 17 0)
    ∷ case 4 (entry 1 3 1 1 65535) 1 1 3 (Cell (Value (quotient 1 1)))
    ∷ case 3 (entry 0 1 0 1 0) 1 0 2 (Refused 17 0)
    ∷ case 3 (entry 0 1 3 2 0) 1 0 2 (Refused 17 0)
    ∷ case 3 (0 ∷ 1 ∷ 4 ∷ 5 ∷ []) 1 0 1 (Refused 17 0)
    ∷ []

worked : map (λ (c : Case). cell_of c.contexts c.list c.entries c.first c.second) cases ≡ map (λ (c : Case). c.answer) cases
unfolding cases case entry three twice cell_of cell_check numbers_check count_check rule_at entry_rule earliest first_of cell_in entry_for keep kth names entries_from
worked = refl
