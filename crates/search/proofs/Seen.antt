-- The pairs that were met, as marks: each pair of few contexts has its own number, so a mark tells its pair.
use mathlib.Core.Bool.{true}
use mathlib.Core.List.{List, [], ◌∷◌, map, map-append}
use mathlib.Core.List.Memᴰ.{of_map}
use mathlib.Core.Path.{◌≡◌, sym, ap, ◌∙◌}
use Prim.Native.Nat.{ℕ, ◌+◌, ◌*◌, ◌≤◌, ◌<◌}
use native.Mathlib.Omega.{arith}
use lib.Dec.{ltb}
use lib.ListN.{length}
use Rattle.order.proofs.Lists.{cases}
use Rattle.site.specs.Site.{Site, Pair}
use Rattle.site.specs.Events.{pair_of}
use Rattle.site.specs.Tables.{site_of}
use Rattle.site.specs.declared.Context.{Context}
use Rattle.tables.specs.Sound.{Sound}
use Rattle.tables.proofs.Sound.{contexts_are}
use Rattle.marks.specs.Marks.{marks_of, with_mark, is_marked}
use Rattle.marks.proofs.Marked.{marks_more, marked_in}
use Rattle.search.specs.Search.{most, pair_words, context_is, pairs_part, pair_number, Seen, MetBefore, Noted}

-- the number of a pair of few contexts
number_small : (p : Pair) → p.lower < most → p.higher < most → pair_number p < 16 * pair_words
number_small p h k = omega (arith, h, k)

-- in whichever order they are given
module _ (a b : Context) where
  pair_inside : (n : ℕ) → a.0 < n → b.0 < n → ((pair_of (context_is a) (context_is b)).lower < n) × ((pair_of (context_is a) (context_is b)).higher < n)
  unfolding pair_of
  pair_inside n h k = cases (ltb a.0 b.0) (λ t. rw t (h, k)) (λ f. rw f (k, h))

  pub number_inside : a.0 < most → b.0 < most → pair_number (pair_of (context_is a) (context_is b)) < 16 * pair_words
  number_inside h k = let inside = pair_inside most h k in number_small (pair_of (context_is a) (context_is b)) inside.0 inside.1

-- two pairs of few contexts have two numbers
number_apart : (p q : Pair) → p.lower < most → p.higher < most → q.lower < most → q.higher < most → pair_number p ≡ pair_number q → p ≡ q
number_apart p q a b c d e =
    let l : p.lower ≡ q.lower = omega (arith, a, b, c, d, e) in
    let h : p.higher ≡ q.higher = omega (arith, a, b, c, d, e) in
    λ i. record { lower = l i; higher = h i }

-- a pair of few contexts
module _ {os cs : List ℕ} (s : Sound os cs) (p : Pair) (b : (p.lower + 1 < length os) × (p.higher + 1 < length os)) (few : length (site_of os cs) ≤ most) where
  pub few_inside : (p.lower < most) × (p.higher < most)
  few_inside = (omega (arith, b.0, contexts_are s), omega (arith, b.1, contexts_are s))

  number_few : pair_number p < 16 * pair_words
  number_few = number_small p few_inside.0 few_inside.1

  -- a mark tells that it was met
  pub seen_told : (work : List ℕ) → is_marked (pairs_part work) (pair_number p) ≡ true → MetBefore (site_of os cs) p work
  seen_told work t pairs proper seen =
      let t' : is_marked (marks_of pair_words (map pair_number pairs)) (pair_number p) ≡ true = rw (seen few) at t in
      let m = of_map pair_number pairs (marked_in pair_words (map pair_number pairs) (pair_number p) number_few t') in
      let q = m.0 in
      let share = proper.share q m.1 in
      let same : q ≡ p = number_apart q p (omega (arith, share.rising, share.inside, few)) (omega (arith, share.inside, few)) few_inside.0 few_inside.1 m.2 in
      rw same at m.1

  -- it is marked
  pub seen_more : (work work' : List ℕ) → pairs_part work' ≡ with_mark (pairs_part work) (pair_number p) → Noted (site_of os cs) p work work'
  seen_more work work' e pairs seen h =
      e ∙ ap (λ (l : List ℕ). with_mark l (pair_number p)) (seen h)
      ∙ marks_more (map pair_number pairs) (pair_number p) pair_words number_few
      ∙ ap (marks_of pair_words) (sym (map-append pair_number pairs (p ∷ [])))

-- among many contexts no pair has a mark
pub seen_many : (site : Site) → most < length site → (pairs : List Pair) (work : List ℕ) → Seen site pairs work
seen_many site many pairs work h = absurd (omega (arith, many, h))
