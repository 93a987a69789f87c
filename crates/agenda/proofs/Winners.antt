-- Which context comes first: among the contexts from lo on and below hi, the word of the one whose next event comes first.
-- Ceilings are compared as fractions, and a tie goes to the first. Two parts, one behind the other, are joined by `winner`,
-- so the top of the tournament has the first of all.
use mathlib.Core.Bool.{Bool, true, false}
use mathlib.Core.List.{[]}
use mathlib.Core.Path.{◌≡◌, sym, ap, ap₂, ◌∙◌}
use Prim.Native.Nat.{ℕ, zero, suc, pred, ◌+◌, ◌-◌, ◌*◌, ◌≤◌, ◌<◌}
use native.Mathlib.Omega.{arith}
use lib.ListN.{length, get_or-eq_default}
use borrow.Author.Tests.{le-ltb, eq-eqb, ne_eqb}
use Rattle.order.proofs.Lists.{cases, never}
use Rattle.order.proofs.Orders.{irreflexive, transitive, then_after, then_tied}
use Rattle.site.specs.Ratio.{below}
use Rattle.site.specs.Measure.{in_use}
use Rattle.site.proofs.Measures.{ceiling_is}
use Rattle.site.specs.Site.{Site, size_of}
use Rattle.site.specs.Events.{ceiling_at, event_before}
use Rattle.walk.specs.Fractions.{lower}
use Rattle.walk.proofs.Fractions.{lower_below}
use Rattle.site.proofs.Events.{event_ranks, ceiling_before}
use Rattle.trail.proofs.Frontier.{next_of}
use Rattle.words.proofs.Split.{by_eq, by_le}
use Rattle.agenda.specs.Tournament.{left_of, leaf_word, own_word, winner, node_word}
use Rattle.agenda.proofs.Nodes.{doubled, doubled_rises, doubled_least, leaf_is, node_is}
use Rattle.agenda.proofs.Subtrees.{Subtree}
use Rattle.agenda.proofs.Contenders.{lower_yes, lower_no}

-- ---- beyond the last context there is nothing

module _ (site : Site) where
  pub beyond : (i : ℕ) → length site ≤ i → size_of site i ≡ 0
  beyond i h = ap length (get_or-eq_default site [] {n = i} h)

  pub left_inside : (i : ℕ) {k : ℕ} → k < size_of site i → i < length site
  left_inside i {k} h = by_le (length site) i (λ l. absurd (omega (arith, beyond i l))) (λ l. l)

-- ---- the first of some contexts

-- the word w is that of the first, or 0 where nothing is left
pub record First (site : Site) (n : ℕ → ℕ) (lo hi w : ℕ) : Type 0 where
  pub none : w ≡ 0 → (j : ℕ) → lo ≤ j → j < hi → size_of site j ≤ n j
  pub inside : 0 < w → (lo ≤ pred w) × (pred w < hi) × (n (pred w) < size_of site (pred w))
  pub first : 0 < w → (j : ℕ) → lo ≤ j → j < hi → n j < size_of site j → event_before in_use site (next_of n j) (next_of n (pred w)) ≡ false

module _ (site : Site) (n : ℕ → ℕ) where
  -- the ceilings of two next places, compared by their cross products
  ceilings : (i j : ℕ) → n i < size_of site i → n j < size_of site j
      → below (ceiling_at in_use site (next_of n i)) (ceiling_at in_use site (next_of n j)) ≡ lower (left_of site n (suc i)) (left_of site n (suc j))
  unfolding left_of
  ceilings i j h k =
      ap₂ below (ceiling_is site (next_of n i)) (ceiling_is site (next_of n j))
      ∙ sym (lower_below (left_of site n (suc i)) (left_of site n (suc j)) (omega arith) (omega arith))

  -- with no higher ceiling and a greater number it comes not first
  not_first : (i j : ℕ) → i < j → below (ceiling_at in_use site (next_of n i)) (ceiling_at in_use site (next_of n j)) ≡ false → event_before in_use site (next_of n j) (next_of n i) ≡ false
  unfolding event_before
  not_first i j h f = cases (below (ceiling_at in_use site (next_of n j)) (ceiling_at in_use site (next_of n i)))
      (λ t. then_after _ _ (next_of n j) (next_of n i) f t)
      (λ g. then_tied _ _ (next_of n j) (next_of n i) f g ∙ le-ltb j i (omega arith))

  -- what comes not before b comes not before a, if a comes before b, or if b comes not before a
  not_before : (i a b : ℕ) → event_before in_use site (next_of n a) (next_of n b) ≡ true → event_before in_use site (next_of n i) (next_of n b) ≡ false → event_before in_use site (next_of n i) (next_of n a) ≡ false
  not_before i a b t f = cases (event_before in_use site (next_of n i) (next_of n a)) (λ x. never (transitive (event_ranks in_use site) (next_of n i) (next_of n a) (next_of n b) x t) f) (λ g. g)

  not_between : (i a b : ℕ) → event_before in_use site (next_of n b) (next_of n a) ≡ false → event_before in_use site (next_of n i) (next_of n b) ≡ false → event_before in_use site (next_of n i) (next_of n a) ≡ false
  not_between i a b g f = cases (event_before in_use site (next_of n i) (next_of n a)) (λ x. never ((event_ranks in_use site).between (next_of n i) (next_of n b) (next_of n a) x f) g) (λ z. z)

  -- ---- one context

  own_first : (i : ℕ) → First site n i (i + 1) (own_word (left_of site n) (suc i))
  unfolding left_of leaf_word
  own_first i = by_le (size_of site i) (n i)
      (λ h. rw (eq-eqb (size_of site i - n i) 0 (omega arith)) (record { none = λ z j l k. let e : j ≡ i = omega arith in rw e h; inside = λ z. absurd (omega arith); first = λ z. absurd (omega arith) }))
      (λ h. rw (ne_eqb (size_of site i - n i) 0 (λ z. omega arith)) (record {
        none = λ z. absurd (omega arith);
        inside = λ z. (omega arith, omega arith, h);
        first = λ z j l k m. let e : j ≡ i = omega arith in rw e (irreflexive (event_ranks in_use site) (next_of n i));
      }))

  -- none is below no other, and all that are left are above it
  never_above : (w : ℕ) → lower (left_of site n w) (left_of site n 0) ≡ true → ⊥
  unfolding left_of
  never_above w t = omega (arith, lower_yes (left_of site n w) (left_of site n 0) t)

  always_above : (i : ℕ) → n i < size_of site i → lower (left_of site n 0) (left_of site n (suc i)) ≡ false → ⊥
  unfolding left_of
  always_above i h t = omega (arith, lower_no (left_of site n 0) (left_of site n (suc i)) t)

  -- ---- two parts, one behind the other

  module _ {lo mid hi a b : ℕ} (u : First site n lo mid a) (v : First site n mid hi b) (lm : lo ≤ mid) (mh : mid ≤ hi) where
    -- one of them has nothing left
    only_second : a ≡ 0 → First site n lo hi b
    only_second z = record {
      none = λ y j l h. by_le mid j (λ m. v.none y j m h) (λ m. u.none z j l m);
      inside = λ y. let i = v.inside y in (omega (arith, i.0), i.1, i.2);
      first = λ y j l h k. by_le mid j (λ m. v.first y j m h k) (λ m. absurd (omega (arith, k, u.none z j l m)));
    }

    only_first : b ≡ 0 → First site n lo hi a
    only_first z = record {
      none = λ y j l h. by_le mid j (λ m. v.none z j m h) (λ m. u.none y j l m);
      inside = λ y. let i = u.inside y in (i.0, omega (arith, i.1), i.2);
      first = λ y j l h k. by_le mid j (λ m. absurd (omega (arith, k, v.none z j m h))) (λ m. u.first y j l m k);
    }

    module _ (x : 0 < a) (y : 0 < b) where
      -- the first of the one against that of the other, in terms of their ceilings
      against : (t : Bool) → lower (left_of site n a) (left_of site n b) ≡ t → below (ceiling_at in_use site (next_of n (pred a))) (ceiling_at in_use site (next_of n (pred b))) ≡ t
      against t e =
          let p : suc (pred a) ≡ a = omega arith in
          let q : suc (pred b) ≡ b = omega arith in
          ceilings (pred a) (pred b) (u.inside x).2 (v.inside y).2 ∙ ap₂ (λ (i j : ℕ). lower (left_of site n i) (left_of site n j)) p q ∙ e

      second_wins : lower (left_of site n a) (left_of site n b) ≡ true → First site n lo hi b
      second_wins t =
          let before = ceiling_before in_use site (next_of n (pred b)) (next_of n (pred a)) (against true t) in
          let i = v.inside y in
          record {
            none = λ z. absurd (omega arith);
            inside = λ z. (omega (arith, i.0), i.1, i.2);
            first = λ z j l h k. by_le mid j (λ m. v.first y j m h k) (λ m. not_before j (pred b) (pred a) before (u.first x j l m k));
          }

      first_wins : lower (left_of site n a) (left_of site n b) ≡ false → First site n lo hi a
      first_wins f =
          let later = not_first (pred a) (pred b) (omega (arith, (u.inside x).1, (v.inside y).0)) (against false f) in
          let i = u.inside x in
          record {
            none = λ z. absurd (omega arith);
            inside = λ z. (i.0, omega (arith, i.1), i.2);
            first = λ z j l h k. by_le mid j (λ m. not_between j (pred a) (pred b) later (v.first y j m h k)) (λ m. u.first x j l m k);
          }

    winner_first : First site n lo hi (winner (left_of site n) a b)
    unfolding winner
    winner_first = cases (lower (left_of site n a) (left_of site n b))
        (λ t. rw t (by_eq a 0 only_second (λ d. by_eq b 0
        (λ (e : b ≡ 0). absurd (never_above a (rw e at t)))
        (λ g. second_wins (omega (arith, d)) (omega (arith, g)) t))))
        (λ f. rw f (by_eq b 0 only_first (λ g. by_eq a 0
        (λ (e : a ≡ 0). let q : b ≡ suc (pred b) = omega (arith, g) in let z : lower (left_of site n 0) (left_of site n (suc (pred b))) ≡ false = rw (e, q) at f in absurd (always_above (pred b) (v.inside (omega (arith, g))).2 z))
        (λ d. first_wins (omega (arith, d)) (omega (arith, g)) f))))

  -- ---- the top

  -- m levels below node t are the contexts under it
  under : (m t : ℕ) → 0 < t → 256 ≤ doubled m t → doubled m (suc t) ≤ 512 → First site n (doubled m t - 256) (doubled m (suc t) - 256) (node_word (left_of site n) t)
  unfolding doubled
  under zero t z h k = let e : suc t - 256 ≡ t - 256 + 1 = omega arith in let i : t - 255 ≡ suc (t - 256) = omega arith in rw (leaf_is (left_of site n) t h, e, i) (own_first (t - 256))
  under (suc m) t z h k =
      let e : 2 * suc t ≡ suc (2 * t + 1) = omega arith in
      let i : suc (2 * t) ≡ 2 * t + 1 = omega arith in
      let l : t < 256 = omega (arith, k, doubled_least m (2 * suc t)) in
      let a : doubled m (2 * t) ≤ doubled m (2 * t + 1) = doubled_rises m (2 * t) (2 * t + 1) (omega arith) in
      let b : doubled m (2 * t + 1) ≤ doubled m (2 * suc t) = doubled_rises m (2 * t + 1) (2 * suc t) (omega arith) in
      let x : First site n (doubled m (2 * t) - 256) (doubled m (2 * t + 1) - 256) (node_word (left_of site n) (2 * t)) = rw i at (under m (2 * t) (omega arith) h (rw i (omega (arith, b, k)))) in
      let y : First site n (doubled m (2 * t + 1) - 256) (doubled m (2 * suc t) - 256) (node_word (left_of site n) (2 * t + 1)) = rw (← e) at (under m (2 * t + 1) (omega arith) (omega (arith, a, h)) (rw (← e) k)) in
      rw (node_is (left_of site n) t z l) (winner_first x y (omega (arith, a)) (omega (arith, b)))

  -- those of the site have the first of all among them
  among : {hi w : ℕ} → First site n 0 hi w → length site ≤ hi → First site n 0 (length site) w
  among u h = record {
    none = λ z j l k. u.none z j l (omega arith);
    inside = λ z. let i = u.inside z in (i.0, left_inside site _ i.2, i.2);
    first = λ z j l k. u.first z j l (omega arith);
  }

  -- the top has it
  pub top_first : {top : ℕ} → Subtree (length site) top → First site n 0 (length site) (node_word (left_of site n) top)
  top_first {top} T =
      let z : doubled T.levels top - 256 ≡ 0 = omega (arith, T.starts) in
      let u : First site n 0 (doubled T.levels (suc top) - 256) (node_word (left_of site n) top) = rw z at (under T.levels top T.low (omega (arith, T.starts)) T.ends) in
      among u (omega (arith, T.reaches))
