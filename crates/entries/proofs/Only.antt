-- One answer only: two results that meet a function's contract are equal, and so are the buffers that it leaves.
-- `Post` is the contract itself, as it is read from the code.
use mathlib.Core.Path.{sym, ◌∙◌}
use mathlib.Core.List.{List}
use Prim.Native.Nat.{ℕ}
use Rattle.words.proofs.OneAnswer.{OneAnswer}
use Rattle.entries.proofs.rank_before.Kinds as rank_before_kinds
use Rattle.entries.proofs.rank_before.Reads as rank_before
use Rattle.entries.proofs.entry_at.Kinds as entry_at_kinds
use Rattle.entries.proofs.entry_at.Reads as entry_at
use Rattle.entries.proofs.insert.Kinds as insert_kinds
use Rattle.entries.proofs.insert.Reads as insert
use Rattle.entries.proofs.below_last.Kinds as below_last_kinds
use Rattle.entries.proofs.below_last.Reads as below_last

pub rank_before_only : OneAnswer 0 rank_before_kinds.ps rank_before_kinds.r rank_before.Post (λ κs u x. u)
rank_before_only κs a u v x y p q = p ∙ sym q

pub entry_at_only : OneAnswer 1 entry_at_kinds.ps entry_at_kinds.r entry_at.Post (λ κs u x. u)
entry_at_only κs a u v x y p q = p ∙ sym q

-- the list at exit, too
pub insert_only : OneAnswer 1 insert_kinds.ps insert_kinds.r insert.Post {B = ℕ × List ℕ} (λ κs u x. (u, x.0.now))
insert_only κs a u v x y p q = λ i. ((p.0 ∙ sym q.0) i, (p.1.0 ∙ sym q.1.0) i)

pub below_last_only : OneAnswer 1 below_last_kinds.ps below_last_kinds.r below_last.Post (λ κs u x. u)
below_last_only κs a u v x y p q = p ∙ sym q
