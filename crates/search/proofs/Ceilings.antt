-- What `stops` tells of the cut-off.
-- The fraction that the code makes of a place is the ceiling of the site's definitions; that the list's k-th entry is the cut-off, the entries say.
use mathlib.Core.Bool.{Bool, not}
use mathlib.Core.List.{List}
use mathlib.Core.Path.{◌≡◌, sym, ap, ap₂, ◌∙◌}
use Prim.Native.Nat.{ℕ, pred, ◌+◌, ◌-◌}
use native.Mathlib.Omega.{arith}
use lib.ListN.{length}
use Rattle.site.specs.Ratio.{Ratio, ◌over◌, reaches}
use Rattle.site.specs.Measure.{in_use}
use Rattle.site.proofs.Measures.{ceiling_is}
use Rattle.site.specs.Site.{Site, Rising, Pair, codes_of, size_of}
use Rattle.site.specs.Events.{Event, Occurs, ceiling_at, cut_of}
use Rattle.order.specs.Order.{kth}
use Rattle.entries.specs.Entries.{entries, below_entry}
use Rattle.entries.specs.Listed.{Listed, Proper}
use Rattle.entries.proofs.Listed.{listed_cut}

module _ {site : Site} (R : Rising site) (e : Event) (o : Occurs site e) where
  ceiling_so : (size : ℕ) → size ≡ size_of site e.context → (size - e.place + 1) over size ≡ ceiling_at in_use site e
  ceiling_so size q =
      let l : size - e.place + 1 ≡ size_of site e.context - pred e.place = omega (arith, o.from_one, o.to_size) in
      ap₂ ◌over◌ l q ∙ sym (ceiling_is site e)

  pub stop_told : {part : List ℕ} (list : List ℕ) (found k : ℕ) {r : Bool} → part ≡ codes_of site e.context → r ≡ below_entry (record { num = length part - e.place + 1; den = length part }) (kth k (entries found list))
      → (pairs : List Pair) → Proper site pairs → Listed site k pairs list found → r ≡ not (reaches (cut_of in_use site k pairs) (ceiling_at in_use site e))
  stop_told {part} list found k p q pairs proper l =
      let n : length part ≡ size_of site e.context = ap length p in
      q ∙ listed_cut R l proper (record { num = length part - e.place + 1; den = length part }) (omega (arith, o.from_one, o.to_size)) ∙ ap (λ (c : Ratio). not (reaches (cut_of in_use site k pairs) c)) (ceiling_so (length part) n)
