-- The contracts of the host calls say `Hosts` and `HostsCell`, and have one answer only: the value, and what is given back at exit.
-- `Post` is the contract itself, as it is read from the code.
use mathlib.Core.List.{List}
use mathlib.Core.Path.{sym, ◌∙◌}
use Prim.Native.Nat.{ℕ}
use lib.Ieee.{Float}
use Rattle.words.proofs.OneAnswer.{Says, OneAnswer}
use Rattle.host.specs.Call.{Hosts, HostsCell}
use Rattle.host.proofs.sazamkhri_listing.Kinds as sazamkhri_listing_kinds
use Rattle.host.proofs.sazamkhri_listing.Reads as sazamkhri_listing
use Rattle.host.proofs.sazamkhri_cell.Kinds as sazamkhri_cell_kinds
use Rattle.host.proofs.sazamkhri_cell.Reads as sazamkhri_cell

-- what it says
pub sazamkhri_listing_says : Says 2 sazamkhri_listing_kinds.ps sazamkhri_listing_kinds.r sazamkhri_listing.Post
    (λ κs a u x. Hosts a.0.now a.1.0.now u x.1.0.now)
sazamkhri_listing_says κs a u x p = p

-- one value, and one buffer
pub sazamkhri_listing_only : OneAnswer 2 sazamkhri_listing_kinds.ps sazamkhri_listing_kinds.r sazamkhri_listing.Post {B = ℕ × List ℕ} (λ κs u x. (u, x.1.0.now))
sazamkhri_listing_only κs a u v x y p q = λ i. ((p.value_is ∙ sym q.value_is) i, (p.text_is ∙ sym q.text_is) i)

-- of one cell: contexts, list, entries and the two numbers come first, and the value is the last
pub sazamkhri_cell_says : Says 2 sazamkhri_cell_kinds.ps sazamkhri_cell_kinds.r sazamkhri_cell.Post
    (λ κs a u x. HostsCell a.0 a.1.0.now a.1.1.0 a.1.1.1.0 a.1.1.1.1.0 u x.1.1.1.1.1.0.now)
sazamkhri_cell_says κs a u x p = p

pub sazamkhri_cell_only : OneAnswer 2 sazamkhri_cell_kinds.ps sazamkhri_cell_kinds.r sazamkhri_cell.Post {B = ℕ × Float} (λ κs u x. (u, x.1.1.1.1.1.0.now))
sazamkhri_cell_only κs a u v x y p q = λ i. ((p.kind_is ∙ sym q.kind_is) i, (p.value_is ∙ sym q.value_is) i)
