-- The list buffer in the join's loop: it starts empty, one more pair is inserted, and its k-th entry gives the cut-off.
-- The search uses these laws and never opens an entry.
use mathlib.Core.Bool.{Bool, not, not-not}
use mathlib.Core.List.{List, [], ◌∷◌, ◌++◌, map}
use mathlib.Core.List.Memᴰ.{append_left as in_left}
use mathlib.Core.List.Memᴰ.{append_right as in_right}
use mathlib.Core.List.Memᴰ.{head as here}
use mathlib.Core.List.Memᴰ.{of_map}
use mathlib.Core.Option
use mathlib.Core.Option.{Option, none, some}
use mathlib.Core.Path.{◌≡◌, refl, sym, ap, ◌∙◌}
use Prim.Native.Nat.{ℕ, zero, suc, ◌+◌, ◌*◌, ◌-◌, ◌≤◌, ◌<◌, min}
use native.Mathlib.Omega.{arith}
use borrow.Author.Tests.{lt-leb}
use lib.Dec.{leb}
use lib.ListN.{length, take, drop, replicate, length-append, length-map, length-replicate, take-append-drop}
use Rattle.order.specs.Order.{◌∈◌, insert_by, kth}
use Rattle.order.proofs.Lists.{take_map, pairwise_imp, map_pairwise}
use Rattle.order.proofs.Kth.{kth_in, kth_is, kth_none}
use Rattle.order.proofs.Sort.{insert_map}
use Rattle.site.specs.Ratio.{below, reaches}
use Rattle.site.specs.Measure.{in_use}
use Rattle.site.specs.Site.{Site, Rising, Pair, Shares, similarity, rank_before, top_of, add_top}
use Rattle.site.specs.Events.{cut_of}
use Rattle.site.proofs.Measures.{similarity_is}
use Rattle.site.proofs.Pairs.{rank_orders}
use Rattle.site.proofs.Top.{top_sorted, top_add, top_length, top_none, top_in}
use Rattle.walk.specs.declared.Fraction.{Fraction}
use Rattle.walk.specs.Fractions.{ratio_of, lower}
use Rattle.walk.proofs.Fractions.{lower_below}
use Rattle.words.specs.Words.{flat, Begins}
use Rattle.words.proofs.Words.{padded_none}
use Rattle.entries.specs.Entries.{width, entry_of, entry_at, entries, similarity_of, entry_before, Ordered, inserted, Inserts, below_entry}
use Rattle.entries.specs.declared.Entry.{Entry}
use Rattle.entries.specs.Listed.{entry_words, Listed, Proper}
use Rattle.entries.proofs.Reading.{flat_width, length_entries, entries_at, read_back, entries_held}
use Rattle.entries.proofs.Alike.{union_positive, same_order}

pub entry_length : (site : Site) (pairs : List Pair) → length (entry_words site pairs) ≡ width * length pairs
entry_length site pairs = flat_width (map (entry_of site) pairs) ∙ ap (λ (n : ℕ). width * n) (length-map pairs (entry_of site))

-- the entries of some pairs, read from a buffer that begins with their words
pub entries_back : (site : Site) (pairs : List Pair) (list : List ℕ) {f : ℕ} → f ≡ length pairs → Begins list (entry_words site pairs) → entries f list ≡ map (entry_of site) pairs
entries_back site pairs list q h =
    let ws = entry_words site pairs in
    let whole : ws ++ drop (length ws) list ≡ list = ap (λ (l : List ℕ). l ++ drop (length ws) list) (sym h) ∙ take-append-drop (length ws) list in
    rw (q ∙ sym (length-map pairs (entry_of site)), ← whole) (read_back [] (map (entry_of site) pairs) (drop (length ws) list))

pub listed_start : (site : Site) (k n : ℕ) → Listed site k [] (replicate n 0) 0
unfolding flat
listed_start site k n = record { holds = rw (top_none in_use site k, length-replicate) (padded_none n); count = rw (top_none in_use site k) }

-- ---- the k-th entry

kth_map : {A B : Type 0} (f : A → B) (k : ℕ) (xs : List A) → kth k (map f xs) ≡ Option.map f (kth k xs)
unfolding kth
kth_map f zero xs = refl
kth_map f (suc k) [] = refl
kth_map f (suc zero) (x ∷ xs) = refl
kth_map f (suc (suc k)) (x ∷ xs) = kth_map f (suc k) xs

-- what `below_last` tells
module _ (list : List ℕ) (found k : ℕ) (c : Fraction) where
  pub not_full : found < k → leb k found ≡ below_entry c (kth k (entries found list))
  not_full h = rw (lt-leb k found h, kth_none k (entries found list) (omega (arith, length_entries list 0 found)))

  pub below_told : {e : Entry} {s : Fraction} {r : Bool} → 0 < k → k ≤ found → e ≡ entry_at list (width * (k - 1)) → s ≡ similarity_of e → r ≡ lower c s → r ≡ below_entry c (kth k (entries found list))
  below_told {e} pos h q w o =
      let at : kth (suc (k - 1)) (entries found list) ≡ some e = kth_is (k - 1) (entries found list) e (omega (arith, length_entries list 0 found)) ∙ ap some (entries_at list found (k - 1) e (omega arith) ∙ sym q) in
      let n : suc (k - 1) ≡ k = omega arith in
      o ∙ rw w (sym (ap (below_entry c) (rw n at at)))

-- ---- the list in the loop

module _ {site : Site} {k : ℕ} {pairs : List Pair} {list : List ℕ} {found : ℕ} (R : Rising site) (l : Listed site k pairs list found) where
  pub listed_few : found ≤ k
  listed_few = omega (arith, l.count, top_length in_use site k pairs)

  counted : found ≡ length (map (entry_of site) (top_of in_use site k pairs))
  counted = l.count ∙ sym (length-map (top_of in_use site k pairs) (entry_of site))

  -- its entries are in order
  pub listed_ordered : Proper site pairs → Ordered list found
  listed_ordered f =
      let top = top_of in_use site k pairs in
      let shares : (q : Pair) → q ∈ top → Shares site q = λ q i. f.share q (top_in in_use site k pairs q i) in
      let held : entries found list ≡ map (entry_of site) top = entries_held (map (entry_of site) top) counted l.holds in
      record {
        order = rw held (map_pairwise _ (entry_of site) top (pairwise_imp _ _ top (λ p q i j t. same_order R q p (shares q j) (shares p i) ∙ (rank_orders in_use site).ranks.asymmetric p q t) (top_sorted in_use site k pairs f.once)));
        positive = λ e i. let m = of_map (entry_of site) top (rw held at i) in rw (← m.2) (union_positive R m.0 (shares m.0 m.1).some);
      }

  module _ (p : Pair) (f : Proper site (pairs ++ p ∷ [])) where
    top_inserted : take k (inserted (entry_of site p) (map (entry_of site) (top_of in_use site k pairs))) ≡ map (entry_of site) (top_of in_use site k (pairs ++ p ∷ []))
    unfolding inserted add_top
    top_inserted =
        ap (take k) (insert_map (rank_before in_use site) entry_before (entry_of site) p (top_of in_use site k pairs) (λ q i. same_order R p q (f.share p (in_right pairs (here refl))) (f.share q (in_left (p ∷ []) (top_in in_use site k pairs q i)))))
        ∙ take_map (entry_of site) k (insert_by (rank_before in_use site) p (top_of in_use site k pairs)) ∙ ap (map (entry_of site)) (top_add in_use site k pairs p f.once)

    -- one more pair is inserted
    pub listed_add : {more : ℕ} {out : List ℕ} → more ≡ min k (found + 1) → Inserts k (entry_of site p) found list out → Listed site k (pairs ++ p ∷ []) out more
    listed_add n i = record {
      holds = rw top_inserted at (i (map (entry_of site) (top_of in_use site k pairs)) counted l.holds);
      count = omega (arith, l.count, top_length in_use site k pairs, top_length in_use site k (pairs ++ p ∷ []), length-append pairs (p ∷ []));
    }

  -- the k-th entry gives the cut-off
  module _ (proper : Proper site pairs) (c : Fraction) (some_left : 0 < c.den) where
    last_below : (q : Pair) → Shares site q → lower c (similarity_of (entry_of site q)) ≡ below (ratio_of c) (similarity in_use site q)
    last_below q s = lower_below c (similarity_of (entry_of site q)) some_left (union_positive R q s.some) ∙ ap (below (ratio_of c)) (sym (similarity_is site q))

    cut_by : (o : Option Pair) → ((q : Pair) → o ≡ some q → Shares site q) → below_entry c (Option.map (entry_of site) o) ≡ not (reaches (Option.map (similarity in_use site) o) (ratio_of c))
    unfolding reaches
    cut_by none h = refl
    cut_by (some q) h = rw not-not (last_below q (h q refl))

    pub listed_cut : below_entry c (kth k (entries found list)) ≡ not (reaches (cut_of in_use site k pairs) (ratio_of c))
    unfolding cut_of
    listed_cut =
        let top = top_of in_use site k pairs in
        ap (below_entry c) (ap (kth k) (entries_held (map (entry_of site) top) counted l.holds) ∙ kth_map (entry_of site) k top)
        ∙ cut_by (kth k top) (λ q e. proper.share q (top_in in_use site k pairs q (kth_in k top e)))
