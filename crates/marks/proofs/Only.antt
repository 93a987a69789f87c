-- One answer only: two results that meet a function's contract are equal, and so are the marks that it leaves.
-- `Post` is the contract itself, as it is read from the code.
use mathlib.Core.Path.{sym, ◌∙◌}
use Rattle.words.proofs.OneAnswer.{OneAnswer}
use Rattle.marks.proofs.mark.Kinds as mark_kinds
use Rattle.marks.proofs.mark.Reads as mark
use Rattle.marks.proofs.put_mark.Kinds as put_mark_kinds
use Rattle.marks.proofs.put_mark.Reads as put_mark
use Rattle.marks.proofs.is_marked.Kinds as is_marked_kinds
use Rattle.marks.proofs.is_marked.Reads as is_marked
use Rattle.marks.proofs.marked_from.Kinds as marked_from_kinds
use Rattle.marks.proofs.marked_from.Reads as marked_from

pub mark_only : OneAnswer 2 mark_kinds.ps mark_kinds.r mark.Post (λ κs u x. x.0.now)
mark_only κs a u v x y p q = p ∙ sym q

pub put_mark_only : OneAnswer 1 put_mark_kinds.ps put_mark_kinds.r put_mark.Post (λ κs u x. x.0.now)
put_mark_only κs a u v x y p q = p ∙ sym q

pub is_marked_only : OneAnswer 1 is_marked_kinds.ps is_marked_kinds.r is_marked.Post (λ κs u x. u)
is_marked_only κs a u v x y p q = p ∙ sym q

pub marked_from_only : OneAnswer 2 marked_from_kinds.ps marked_from_kinds.r marked_from.Post (λ κs u x. u)
marked_from_only κs a u v x y p q = p ∙ sym q
