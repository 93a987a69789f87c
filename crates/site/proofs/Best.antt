-- Demand 2: the list is the best of all pairs that share a code: in order, each once, k of them or all, and none left out that comes before one listed.
-- The order of the list is total, so that its first k are fixed.
use mathlib.Core.Bool.{true}
use mathlib.Core.List.{List, ◌++◌}
use mathlib.Core.List.Memᴰ.{append_cases}
use mathlib.Core.Logic.{⊎_elim}
use mathlib.Core.Path.{◌≡◌}
use Prim.Native.Nat.{ℕ, ◌≤◌, min}
use native.Mathlib.Omega.{arith}
use lib.ListN.{length, take, drop, take-append-drop}
use lib.Seq.{take_all}
use Rattle.order.specs.Order.{◌∈◌, Distinct, Sorted}
use Rattle.order.proofs.Lists.{take_in, take_pairwise, pairwise_across}
use Rattle.order.proofs.Sort.{sort_length, sorted_distinct}
use Rattle.site.specs.Measure.{Measure}
use Rattle.site.specs.Site.{Site, Pair, Shares, sharing, rank_before, ranked, top_of, list_of}
use Rattle.site.proofs.Pairs.{sharing_in, in_sharing, rank_orders, sharing_ranked, ranked_same}
use Rattle.site.proofs.Top.{top_length}

module _ (m : Measure) (site : Site) (k : ℕ) where
  abbrev all : List Pair
  all = ranked m site (sharing site)

  pub list_sorted : Sorted (rank_before m site) (list_of m site k)
  unfolding top_of
  list_sorted = take_pairwise _ k all (sharing_ranked m site)

  pub list_once : Distinct (list_of m site k)
  list_once = sorted_distinct (rank_orders m site).ranks (list_of m site k) list_sorted

  pub list_shares : (p : Pair) → p ∈ list_of m site k → Shares site p
  unfolding top_of
  list_shares p i = in_sharing site p ((ranked_same m site (sharing site) p).0 (take_in k all i))

  pub list_count : length (list_of m site k) ≡ min k (length (sharing site))
  list_count = top_length m site k (sharing site)

  sharing_all : (p : Pair) → Shares site p → p ∈ all
  sharing_all p s = (ranked_same m site (sharing site) p).1 (sharing_in site p s)

  -- a pair that is left out comes behind every one listed
  pub list_best : (p q : Pair) → Shares site p → (p ∈ list_of m site k → ⊥) → q ∈ list_of m site k → rank_before m site q p ≡ true
  unfolding top_of
  list_best p q s n i =
      let split = take-append-drop k all in
      let i' : p ∈ take k all ++ drop k all = rw split (sharing_all p s) in
      let ordered : Sorted (rank_before m site) (take k all ++ drop k all) = rw split (sharing_ranked m site) in
      ⊎_elim (λ j. absurd (n j)) (λ j. pairwise_across _ (take k all) (drop k all) ordered i j) (append_cases (take k all) i')

  -- all are listed where they are no more than k
  pub list_all : length (sharing site) ≤ k → (p : Pair) → Shares site p → p ∈ list_of m site k
  unfolding top_of ranked
  list_all h p s = rw (take_all k all (omega (arith, sort_length (rank_before m site) (sharing site)))) (sharing_all p s)
