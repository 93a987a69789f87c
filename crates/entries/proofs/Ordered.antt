-- Lists in order: one of no entries, and what an insertion makes of one.
use mathlib.Core.List.{List, []}
use mathlib.Core.List.Memᴰ.{cases_cons as first_or_rest}
use mathlib.Core.List.Memᴰ.{not-nil}
use mathlib.Core.Logic.{⊎_elim}
use mathlib.Core.Path.{◌≡◌}
use Prim.Native.Nat.{ℕ, ◌+◌, ◌*◌, ◌<◌, min}
use native.Mathlib.Omega.{arith}
use lib.ListN.{length, take, drop, length-take}
use Rattle.order.proofs.Lists.{take_in, take_pairwise}
use Rattle.order.proofs.Sort.{insert_length, insert_same, insert_in_order}
use Rattle.entries.specs.Entries.{width, entries_from, entries, entry_before, Ordered, inserted, inserted_words}
use Rattle.entries.specs.declared.Entry.{Entry}
use Rattle.entries.proofs.Reading.{length_entries, read_back}
use Rattle.entries.proofs.Alike.{before_turned, behind_both}

pub ordered_none : (list : List ℕ) → Ordered list 0
unfolding entries_from
ordered_none list = record { order = tt; positive = λ e m. absurd (not-nil m) }

-- e listed among the first n, and the best k kept
pub inserted_ordered : (ws : List ℕ) (e : Entry) (n k r : ℕ) {out : List ℕ} → Ordered ws n → 0 < e.union → r ≡ min k (n + 1) → out ≡ inserted_words k e n ws → Ordered out r
unfolding inserted
inserted_ordered ws e n k r {out} o pos c q =
    let es = entries n ws in
    let all = inserted e es in
    let l : r ≡ length (take k all) = omega (arith, c, length-take k all, insert_length entry_before e es, length_entries ws 0 n) in
    let back : entries r out ≡ take k all = rw (l, q) (read_back [] (take k all) (drop (width * min k (n + 1)) ws)) in
    record {
      order = rw back (take_pairwise _ k all (insert_in_order entry_before e es
          (λ f i. before_turned e f pos (o.positive f i))
          (λ f g i j. behind_both e f g pos (o.positive f i) (o.positive g j)) o.order));
      positive = λ f i. ⊎_elim (λ (z : f ≡ e). rw z pos) (λ j. o.positive f j) (first_or_rest ((insert_same entry_before e es f).0 (take_in k all (rw back at i))));
    }
