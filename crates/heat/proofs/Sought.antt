-- The loop of `cell_for`, and its invariant: no entry that was passed names the pair.
use mathlib.Core.Bool.{Bool, true, false}
use mathlib.Core.List.{List}
use mathlib.Core.Path.{◌≡◌, sym, ap, ◌∙◌}
use Prim.Native.Nat.{ℕ, suc, ◌+◌, ◌-◌, ◌*◌, ◌≤◌, ◌<◌}
use native.Mathlib.Omega.{arith}
use lib.Ieee.{Float}
use Rattle.order.specs.Order.{keep, kth}
use Rattle.site.specs.Site.{Pair}
use Rattle.entries.specs.Entries.{width, entry_at, entries_from, entries}
use Rattle.entries.specs.declared.Entry.{Entry}
use Rattle.heat.specs.Cells.{quotient, names, entry_for, cell_for}
use Rattle.heat.specs.declared.Cell.TheVariants.{Blank, Value}

pub record Sought (list : List ℕ) (p : Pair) (n i : ℕ) : Type 0 where
  pub within : i ≤ n
  pub same : entry_for p (entries n list) ≡ entry_for p (entries_from (width * i) (n - i) list)

module _ {list : List ℕ} {p : Pair} {n i : ℕ} (w : Sought list p n i) where
  pub not_listed : n ≤ i → Blank ≡ cell_for (entry_for p (entries n list))
  unfolding entry_for keep kth entries_from
  not_listed h = let z : n - i ≡ 0 = omega arith in rw (w.same, z)

  -- the entry i, and whether it names the pair
  module _ (h : i < n) {e : Entry} {b : Bool} (q : e ≡ entry_at list (width * i)) (r : b ≡ names p e) where
    one_left : n - i ≡ suc (n - (i + 1))
    one_left = omega arith

    said : names p (entry_at list (width * i)) ≡ b
    said = sym (r ∙ ap (names p) q)

    pub sought_here : {v : Float} → b ≡ true → v ≡ quotient e.shared e.union → Value v ≡ cell_for (entry_for p (entries n list))
    unfolding entry_for keep kth entries_from
    sought_here t k = rw (w.same, one_left, said ∙ t, k, q)

    pub sought_next : b ≡ false → Sought list p n (i + 1)
    unfolding entry_for keep kth entries_from
    sought_next t =
        let next : width * (i + 1) ≡ width * i + width = omega arith in
        record { within = omega arith; same = w.same ∙ rw (one_left, said ∙ t, next) }
