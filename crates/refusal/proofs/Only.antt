-- One answer only: two results that meet a function's contract are equal. `Post` is the contract itself, as it is read from the code.
use Rattle.std.proofs.Common.{sym, ◌∙◌, ap₂}
use Rattle.words.proofs.OneAnswer.{OneAnswer}
use Rattle.refusal.proofs.Refusal.number.Kinds as number_kinds
use Rattle.refusal.proofs.Refusal.number.Reads as number
use Rattle.refusal.proofs.Refusal.at.Kinds as at_kinds
use Rattle.refusal.proofs.Refusal.at.Reads as at

pub number_only : OneAnswer 0 number_kinds.ps number_kinds.r number.Post (λ κs u x. u)
number_only κs a u v x y p q = p ∙ sym q

pub at_only : OneAnswer 0 at_kinds.ps at_kinds.r at.Post (λ κs u x. u)
at_only κs a u v x y p q = ap₂ (λ r n. record { rule = r; place = n }) (p.0 ∙ sym q.0) (p.1 ∙ sym q.1)
