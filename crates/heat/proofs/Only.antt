-- The contract of the call says `Shows`, and there is one answer only. `Post` is the contract itself, as it is read from the code.
use mathlib.Core.Path.{◌≡◌, sym, ◌∙◌}
use mir.Syntax.{Dict}
use denote.RattleType.{RattleType}
use denote.Param.Laws.{Laws}
use contract.Lifetimes.{Lfts}
use borrow.Fn.Kinds.{Dens, res_t}
use Rattle.words.proofs.OneAnswer.{Says, OneAnswer}
use Rattle.refusal.proofs.Said.{Telling, said_tells}
use Rattle.heat.specs.CellAnswer.{Cell, Refused, cell_said}
use Rattle.heat.specs.Answers.{CellCall, Shows, cell_of}
use Rattle.heat.proofs.cell_of.Kinds as cell_of_kinds
use Rattle.heat.proofs.cell_of.Reads as cell_of_call
use Rattle.heat.proofs.value_of.Kinds as value_of_kinds
use Rattle.heat.proofs.value_of.Reads as value_of_lem

-- the call with the arguments a that answers u: of the parameters the list is the second, and the two contexts are the last
abbrev pub cell_call : (κs : Lfts 1) → Dens κs cell_of_kinds.ps → (res_t cell_of_kinds.r κs).Denot → CellCall
cell_call κs a u = record {
  contexts = a.0;
  list = a.1.0.now;
  entries = a.1.1.0;
  first = a.1.1.1.0.0;
  second = a.1.1.1.1.0.0;
  answer = cell_said u;
}

-- the equation of the contract is `Shows`
pub shows : (c : CellCall) → c.answer ≡ cell_of c.contexts c.list c.entries c.first c.second → Shows c
unfolding cell_of
shows c e = record { refused = λ n p f. e ∙ rw f; shown = λ f. e ∙ rw f }

pub cell_of_says : Says 1 cell_of_kinds.ps cell_of_kinds.r cell_of_call.Post (λ κs a u x. Shows (cell_call κs a u))
cell_of_says κs a u x p = shows (cell_call κs a u) p

-- a cell, or a number and a place, is told by the answer's words
telling : Telling Cell Refused
telling = record { told = λ a b e. cc; apart = λ a n p e. cc; number = λ n p m q e. cc; place = λ n p m q e. cc }

pub cell_of_only : OneAnswer 1 cell_of_kinds.ps cell_of_kinds.r cell_of_call.Post (λ κs u x. u)
cell_of_only κs a u v x y p q = said_tells telling u v (p ∙ sym q)

-- whatever the error's type
pub value_of_only : (E : RattleType) (L : Laws E) (d : Dict)
    → OneAnswer 1 (value_of_kinds.ps E L) (value_of_kinds.r E L) (value_of_lem.Post E L d) (λ κs u x. u)
value_of_only E L d κs a u v x y p q = p ∙ sym q
