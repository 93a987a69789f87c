-- What the call for one cell owes: demand 1, its refusals; and the heat map, the cells of the list that a join left.
use Rattle.std.specs.Prelude.{[], ◌∷◌, map, ◌↔◌, ◌≡◌, ℕ, ◌*◌, ◌≤◌, ◌<◌, T, Float, length}
use Rattle.std.specs.Float.Ieee.{lt, le}
use Rattle.order.specs.Order.{◌∈◌}
use Rattle.site.specs.Site.{Site, Pair, shared_of, union_of}
use Rattle.entries.specs.Entries.{width, first_four, entries}
use Rattle.search.specs.Outcome.{Tells}
use Rattle.join.specs.Join.{JoinCall, call_site}
use Rattle.join.proofs.Demands.{call_list}
use Rattle.heat.specs.Cells.{nought, one, quotient, as_pair, cell_in}
use Rattle.heat.specs.Answers.{CellTells, CellCall, cell_entries}
use Rattle.heat.specs.Refusals.{CellCause}
use Rattle.heat.specs.declared.Cell.TheVariants as cell
use Rattle.heat.specs.CellAnswer as answer

-- ---- demand 1: 13 and 17

pub record CellRefuses (c : CellCall) : Type 0 where
  -- it refuses with n at p exactly if that has its cause (heat/specs/Refusals.antt)
  pub exactly : (n p : ℕ) → 0 < n → CellTells c.answer n (p ∷ []) ↔ CellCause c n p
  -- where nothing is a cause, the answer is the cell (heat/specs/Cells.antt)
  pub accepted : ((n p : ℕ) → CellCause c n p → ⊥) → c.answer ≡ answer.Cell (cell_in c.first c.second (cell_entries c))

-- ---- the heat map

-- the two contexts of a cell, as a pair
abbrev pub cell_pair : CellCall → Pair
cell_pair c = as_pair c.first c.second

-- shared / union of two contexts of a site, rounded once
abbrev pub pair_value : Site → Pair → Float
pair_value site p = quotient (shared_of site p) (union_of site p)

-- a cell of the list that the join j left
pub record OnMap (j : JoinCall) (c : CellCall) : Type 0 where
  -- it is not refused
  pub accepted : (n p : ℕ) → c.answer ≡ answer.Refused n p → ⊥
  -- it has a value exactly if the pair is listed
  pub listed : ((v : Float) × (c.answer ≡ answer.Cell (cell.Value v))) ↔ cell_pair c ∈ call_list j
  -- that value is shared / union of its two contexts on the site
  pub value : cell_pair c ∈ call_list j → c.answer ≡ answer.Cell (cell.Value (pair_value (call_site j) (cell_pair c)))
  -- else it is blank
  pub blank : (cell_pair c ∈ call_list j → ⊥) → c.answer ≡ answer.Cell cell.Blank

-- A join that tells f pairs found, and a cell of two of its contexts: given to `cell_of` are the number of contexts, f, and a list
-- whose first f entries have the first four words of those that the join left, whatever their fifth are and what stands behind them.
abbrev pub MapsList : JoinCall → CellCall → Type 0
MapsList j c =
    (f e m : ℕ) → Tells j.answer 0 (f ∷ e ∷ m ∷ [])
    → c.contexts ≡ length (call_site j) → c.entries ≡ f
    → width * f ≤ length c.list → map first_four (entries f c.list) ≡ map first_four (entries f j.list')
    → c.first < c.contexts → c.second < c.contexts → OnMap j c

-- The rounding loses nothing: of two pairs the one with the smaller shared / union has the smaller value, and two values are equal
-- exactly if these are.
pub record Rounds (site : Site) (p q : Pair) : Type 0 where
  pub less : shared_of site p * union_of site q < shared_of site q * union_of site p → T (lt (pair_value site p) (pair_value site q))
  pub same : pair_value site p ≡ pair_value site q ↔ shared_of site p * union_of site q ≡ shared_of site q * union_of site p

-- A value is above 0.0, and at most 1.0.
pub record InRange (site : Site) (p : Pair) : Type 0 where
  pub above : T (lt nought (pair_value site p))
  pub most : T (le (pair_value site p) one)

-- Two cells with the same two contexts the other way round, of any list: both answers are the same, unless a number is refused.
abbrev pub BothWays : CellCall → CellCall → Type 0
BothWays c d =
    c.contexts ≡ d.contexts → c.list ≡ d.list → c.entries ≡ d.entries → c.first ≡ d.second → c.second ≡ d.first
    → c.first < c.contexts → c.second < c.contexts → c.answer ≡ d.answer

-- Two cells of the same two contexts, of lists as long whose counted entries have the same first four words: both answers are the
-- same. So the fifth word is not looked at.
abbrev pub FifthUnseen : CellCall → CellCall → Type 0
FifthUnseen c d =
    c.contexts ≡ d.contexts → c.entries ≡ d.entries → c.first ≡ d.first → c.second ≡ d.second
    → length c.list ≡ length d.list → map first_four (cell_entries c) ≡ map first_four (cell_entries d) → c.answer ≡ d.answer
