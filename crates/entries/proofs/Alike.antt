-- The order of entries is that of their pairs: cross products of positive denominators are the order of similarities.
-- So among entries of positive unions it ranks.
use mathlib.Core.Bool.{Bool, true, false, not}
use Rattle.std.specs.Ordering.{nat_cmp, partial_ordering_then, is_some_and, is_lt}
use Rattle.std.specs.Prelude.{Some}
use Rattle.std.proofs.lemmas.Bool.Decides.{nat_tests}
use mathlib.Core.Path.{◌≡◌, refl, sym, ap, ap₂, ◌∙◌}
use Prim.Native.Nat.{◌<◌}
use native.Mathlib.Omega.{arith}
use Rattle.order.specs.Order.{Ranks, ◌then_by◌, by}
use Rattle.order.proofs.Orders.{ltb_orders, not_after_trans, by_ranks, then_first, then_after, then_tied, then_agrees, then_ranks}
use Rattle.site.specs.Ratio.{above, below}
use Rattle.site.specs.Measure.{in_use}
use Rattle.site.specs.Site.{Site, Rising, Pair, Shares, shared_of, union_of, similarity, rank_before, numbers_before}
use Rattle.site.proofs.Ratios.{above_ranks}
use Rattle.site.proofs.Measures.{similarity_is}
use Rattle.site.proofs.Pairs.{rank_agrees}
use Rattle.site.proofs.Contexts.{shared_within}
use Rattle.walk.specs.declared.Fraction.{Fraction}
use Rattle.walk.specs.Fractions.{ratio_of, lower}
use Rattle.walk.proofs.Fractions.{lower_below}
use Rattle.entries.specs.Entries.{entry_of, entry_pair, first_four, similarity_of, more_alike, entry_before}
use Rattle.entries.specs.declared.Entry.{Entry}
use Rattle.entries.proofs.Reading.{same_uncoded}

-- ---- what `rank_before` tells

module _ (e f : Entry) {s t : Fraction} (p : s ≡ similarity_of e) (q : t ≡ similarity_of f) {r : Bool} (a : r ≡ lower t s) where
  more : r ≡ more_alike e f
  unfolding more_alike
  more = a ∙ ap₂ lower q p

  pub rank_first : r ≡ true → r ≡ entry_before e f
  unfolding entry_before
  rank_first w = w ∙ sym (then_first _ _ e f (sym more ∙ w))

  module _ {u : Bool} (b : u ≡ lower s t) (z : r ≡ false) where
    less : u ≡ more_alike f e
    unfolding more_alike
    less = b ∙ ap₂ lower p q

    pub rank_after : u ≡ true → not u ≡ entry_before e f
    unfolding entry_before
    rank_after w = ap not w ∙ sym (then_after _ _ e f (sym more ∙ z) (sym less ∙ w))

    pub rank_tied : {n : Bool} → u ≡ false → n ≡ numbers_before (entry_pair e) (entry_pair f) → n ≡ entry_before e f
    unfolding entry_before
    rank_tied w o = o ∙ sym (then_tied _ _ e f (sym more ∙ z) (sym less ∙ w))

-- each return is an arm of the order
pub ruleset ranks = (rank_first, rank_after, rank_tied)

-- ---- what `numbers_before` tells

-- pairs in the order of tuples
pub tuple_before : (p q : Pair) → is_some_and is_lt (partial_ordering_then (Some (nat_cmp p.lower q.lower)) (Some (nat_cmp p.higher q.higher))) ≡ numbers_before p q
unfolding numbers_before ◌then_by◌
tuple_before p q = grind (arith, nat_tests)

-- ---- the first four words alone

-- they fix an entry's place in the order, whatever the fifth is
pub four_order : (e f g h : Entry) → first_four e ≡ first_four g → first_four f ≡ first_four h → entry_before e f ≡ entry_before g h
unfolding entry_before more_alike
four_order e f g h a b =
    let p = same_uncoded e g a in
    let q = same_uncoded f h b in
    let s = ap (λ (x : Entry). similarity_of x) p in
    let t = ap (λ (x : Entry). similarity_of x) q in
    then_agrees _ _ _ _ e f g h (ap₂ lower t s) (ap₂ lower s t) (ap₂ numbers_before (ap (λ (x : Entry). entry_pair x) p) (ap (λ (x : Entry). entry_pair x) q))

-- ---- entries of positive unions

-- by their ratios: no ratio is 0/0, so this order ranks all entries
abbrev ratio_before : Entry → Entry → Bool
ratio_before = by (λ e. ratio_of (similarity_of e)) above then_by by entry_pair numbers_before

ratio_ranks : Ranks ratio_before
unfolding numbers_before
ratio_ranks =
    then_ranks _ _ (by_ranks (λ e. ratio_of (similarity_of e)) above_ranks)
    (by_ranks entry_pair (then_ranks _ _ (by_ranks (λ p. p.lower) ltb_orders.ranks) (by_ranks (λ p. p.higher) ltb_orders.ranks)))

ratio_agrees : (e f : Entry) → 0 < e.union → 0 < f.union → entry_before e f ≡ ratio_before e f
unfolding entry_before more_alike
ratio_agrees e f p q = then_agrees _ _ _ _ e f e f (lower_below (similarity_of f) (similarity_of e) q p) (lower_below (similarity_of e) (similarity_of f) p q) refl

pub before_turned : (e f : Entry) → 0 < e.union → 0 < f.union → entry_before e f ≡ true → entry_before f e ≡ false
before_turned e f p q t = ratio_agrees f e q p ∙ ratio_ranks.asymmetric e f (sym (ratio_agrees e f p q) ∙ t)

-- e ≤ f ≤ g, where e ≤ f stands for `entry_before f e ≡ false`
pub behind_both : (e f g : Entry) → 0 < e.union → 0 < f.union → 0 < g.union → entry_before f e ≡ false → entry_before g f ≡ false → entry_before g e ≡ false
behind_both e f g p q r t u = ratio_agrees g e r p ∙ not_after_trans ratio_ranks e f g (sym (ratio_agrees f e q p) ∙ t) (sym (ratio_agrees g f r q) ∙ u)

-- ---- the entries of pairs

module _ {site : Site} (R : Rising site) where
  pub union_positive : (p : Pair) → 0 < shared_of site p → 0 < union_of site p
  union_positive p s = omega (arith, s, shared_within R p)

  alike : (p q : Pair) → Shares site p → Shares site q → more_alike (entry_of site p) (entry_of site q) ≡ above (similarity in_use site p) (similarity in_use site q)
  unfolding more_alike
  alike p q s t =
      lower_below (similarity_of (entry_of site q)) (similarity_of (entry_of site p)) (union_positive q t.some) (union_positive p s.some)
      ∙ ap₂ below (sym (similarity_is site q)) (sym (similarity_is site p))

  pub same_order : (p q : Pair) → Shares site p → Shares site q → entry_before (entry_of site p) (entry_of site q) ≡ rank_before in_use site p q
  unfolding entry_before
  same_order p q s t = rank_agrees in_use site more_alike (by entry_pair numbers_before) (entry_of site p) (entry_of site q) p q (alike p q s t) (alike q p t s) refl
