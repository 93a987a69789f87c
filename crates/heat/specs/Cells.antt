-- The cell of two contexts, over the entries of a list.
use Rattle.std.specs.Prelude.{Bool, false, cond, ◌&&◌, List, ℕ, min, max, eqb, pos, Float}
use Rattle.std.proofs.Math.Option.{Option, none, some}
use Rattle.std.specs.Float.{fin, binary64}
use Rattle.std.specs.Float.Ieee.{round}
use Rattle.order.specs.Order.{keep, kth}
use Rattle.site.specs.Site.{Pair}
use Rattle.site.specs.declared.Context.{Context}
use Rattle.entries.specs.declared.Entry.{Entry}
use Rattle.heat.specs.declared.Cell.{Cell}
use Rattle.heat.specs.declared.Cell.TheVariants.{Blank, Value}

-- ---- the value

-- 0.0 and 1.0
abbrev pub nought : Float
nought = fin false 0 (pos 0)

abbrev pub one : Float
one = fin false 1 (pos 0)

-- shared divided by union, as an f64 and not negative: the f64 nearest to the fraction, and of two as near the even one.
-- `round` is given the two counts themselves, so there is one rounding.
unfoldable pub quotient : ℕ → ℕ → Float
quotient shared union = round binary64 false shared union

-- ---- which entry

-- two contexts of the code, the lower first
abbrev pub pair : Context → Context → Pair
pair lower higher = record { lower = lower.0; higher = higher.0 }

-- two context numbers in either order
abbrev pub as_pair : ℕ → ℕ → Pair
as_pair first second = record { lower = min first second; higher = max first second }

-- an entry names a pair
unfoldable pub names : Pair → Entry → Bool
names p e = eqb e.lower.0 p.lower && eqb e.higher.0 p.higher

-- the earliest of the entries that name it
unfoldable pub entry_for : Pair → List Entry → Option Entry
entry_for p es = kth 1 (keep (names p) es)

-- ---- the cell

-- the cell of an entry, and blank where there is none
abbrev pub cell_for : Option Entry → Cell
cell_for none = Blank
cell_for (some e) = Value (quotient e.shared e.union)

-- the cell of two contexts: blank for a context against itself, and for a pair that is not listed
unfoldable pub cell_in : ℕ → ℕ → List Entry → Cell
cell_in first second es = cond (eqb first second) Blank (cell_for (entry_for (as_pair first second) es))
