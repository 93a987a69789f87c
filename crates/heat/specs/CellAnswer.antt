-- What a call for one cell answers, in the paper's words: a cell, or the number and the place of a refusal.
use Rattle.std.specs.Prelude.{ℕ, Result}
use Rattle.refusal.specs.declared.Refusal.{Refusal}
use Rattle.refusal.specs.Numbers.{said}
use Rattle.heat.specs.declared.Cell.{Cell as Shown}

-- what is answered
pub data CellAnswer : Type 0 where
  Cell : Shown → CellAnswer
  Refused : ℕ → ℕ → CellAnswer

-- what a result says
abbrev pub cell_said : Result Shown Refusal → CellAnswer
cell_said r = said Cell Refused r
