-- One answer only: two results that meet a function's contract are equal, and so are the buffers that it leaves.
-- `Post` is the contract itself, as it is read from the code.
use mathlib.Core.Path.{sym, ◌∙◌}
use Rattle.words.proofs.OneAnswer.{OneAnswer}
use Rattle.walk.proofs.Walked.{said_same}
use Rattle.walk.proofs.meet.Kinds as meet_kinds
use Rattle.walk.proofs.meet.Reads as meet
use Rattle.walk.proofs.two_fingers.shared_count.Kinds as shared_count_kinds
use Rattle.walk.proofs.two_fingers.shared_count.Reads as shared_count
use Rattle.walk.proofs.union_count.Kinds as union_count_kinds
use Rattle.walk.proofs.union_count.Reads as union_count
use Rattle.walk.proofs.below.Kinds as below_kinds
use Rattle.walk.proofs.below.Reads as below

pub meet_only : OneAnswer 2 meet_kinds.ps meet_kinds.r meet.Post (λ κs u x. u)
meet_only κs a u v x y p q = said_same (p ∙ sym q)

pub shared_count_only : OneAnswer 2 shared_count_kinds.ps shared_count_kinds.r shared_count.Post (λ κs u x. u)
shared_count_only κs a u v x y p q = p ∙ sym q

pub union_count_only : OneAnswer 2 union_count_kinds.ps union_count_kinds.r union_count.Post (λ κs u x. u)
union_count_only κs a u v x y p q = p ∙ sym q

pub below_only : OneAnswer 0 below_kinds.ps below_kinds.r below.Post (λ κs u x. u)
below_only κs a u v x y p q = p ∙ sym q
