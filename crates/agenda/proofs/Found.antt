-- The next event, read from the top of the tournament after j events: the laws of `next_event`.
-- It rests on the order of the contexts (Winners) and on the frontier of the events done.
use mathlib.Core.List.{List, []}
use mathlib.Core.Option.{some}
use mathlib.Core.Path.{◌≡◌, sym, ap, ◌∙◌}
use Prim.Native.Nat.{ℕ, suc, pred, ◌+◌, ◌-◌, ◌≤◌, ◌<◌, zero-le}
use native.Mathlib.Omega.{arith}
use lib.ListN.{length, get_or, get_elem?, drop, length-drop}
use Rattle.site.specs.Measure.{in_use}
use Rattle.site.specs.Site.{size_of}
use Rattle.site.specs.Events.{Event, events_of}
use Rattle.site.specs.Tables.{site_of}
use Rattle.site.proofs.Measures.{in_use_lawful}
use Rattle.trail.proofs.Frontier.{next_of, frontier_next, frontier_end}
use Rattle.words.proofs.Lists.{get_elem?_is, get_elem?_none}
use Rattle.tables.specs.Sound.{Sound}
use Rattle.tables.proofs.Sound.{size_small, contexts_are}
use Rattle.agenda.specs.Next.{At, Over}
use Rattle.agenda.specs.Agenda.{first_events, count_in, Agenda}
use Rattle.walk.specs.declared.Fraction.{Fraction}
use Rattle.agenda.specs.Tournament.{left_of, left_in, top_node, NodesPlayed}
use Rattle.agenda.specs.Next.{next_is, no_event}
use Rattle.agenda.proofs.Counts.{split_at, event_at, left_is as rest_is, frontier}
use Rattle.agenda.proofs.Standing.{left_at, node_at, top_tree}
use Rattle.agenda.proofs.Winners.{First, left_inside, top_first}
use Rattle.agenda.proofs.Paths.{node_same}

module _ {os cs work : List ℕ} {j : ℕ} (s : Sound os cs) (A : Agenda (site_of os cs) j work) where
  -- the nodes from the top on have their words
  pub all_ranked : NodesPlayed (top_node (length (site_of os cs)) - 1) work
  all_ranked =
      let f = left_of (site_of os cs) (count_in (first_events (site_of os cs) j)) in
      let low = (top_tree s).low in
      record { room = A.room; nodes = λ t z h. node_at s A t (omega arith) h ∙ node_same f (left_in work) (λ w k. sym (left_at s A w k)) t (omega arith) h }

-- read from the top of n contexts
module _ {os cs work : List ℕ} {j : ℕ} (s : Sound os cs) (A : Agenda (site_of os cs) j work) {n top : ℕ} (m : n ≡ length (site_of os cs)) (is : top ≡ top_node n) where
  abbrev word : ℕ
  word = get_or work (514 + top) 0

  -- its word is that of the first of all contexts
  top_is_first : First (site_of os cs) (count_in (first_events (site_of os cs) j)) 0 (length (site_of os cs)) word
  top_is_first =
      let T = top_tree s in
      rw (is, m, node_at s A (top_node (length (site_of os cs))) (omega arith) (omega (arith, T.high))) (top_first (site_of os cs) (count_in (first_events (site_of os cs) j)) T)

  -- nothing is left
  pub found_over : word ≡ 0 → Over ≡ next_is (get_elem? (events_of in_use (site_of os cs)) j)
  found_over z =
      let site = site_of os cs in
      let none : drop j (events_of in_use site) ≡ [] = frontier_end in_use_lawful site (count_in (first_events site j)) (first_events site j) (drop j (events_of in_use site)) (split_at site j) (frontier site j A.within) (λ k l. top_is_first.none z k zero-le l) in
      rw (get_elem?_none (events_of in_use site) j (omega (arith, length-drop j (events_of in_use site), ap length none)))

  -- the next place of the context that it names
  module _ (d : word ≡ 0 → ⊥) {w : ℕ} (q : w ≡ word) where
    some_left : count_in (first_events (site_of os cs) j) (pred word) < size_of (site_of os cs) (pred word)
    some_left = (top_is_first.inside (omega (arith, d))).2

    word_few : word < length os
    word_few = omega (arith, d, contexts_are s, left_inside (site_of os cs) (pred word) some_left)

    pub found_inside : 257 + w < length work
    found_inside = omega (arith, q, word_few, s.few, A.room)

    -- what is left of it
    left_is : left_in work word ≡ left_of (site_of os cs) (count_in (first_events (site_of os cs) j)) (suc (pred word))
    left_is =
        let e : word ≡ suc (pred word) = omega (arith, d) in
        left_at s A word (omega (arith, word_few, s.few)) ∙ ap (left_of (site_of os cs) (count_in (first_events (site_of os cs) j))) e

    num_is : get_or work word 0 ≡ size_of (site_of os cs) (pred word) - count_in (first_events (site_of os cs) j) (pred word)
    unfolding left_of
    num_is = ap (λ (x : Fraction). x.num) left_is

    den_is : get_or work (257 + word) 0 ≡ size_of (site_of os cs) (pred word)
    unfolding left_of
    den_is = ap (λ (x : Fraction). x.den) left_is

    pub found_within : get_or work w 0 ≤ get_or work (257 + w) 0
    found_within = rw q (omega (arith, num_is, den_is))

    count_is : get_or work (257 + w) 0 - get_or work w 0 ≡ count_in (first_events (site_of os cs) j) (pred word)
    count_is = rw q (omega (arith, num_is, den_is, some_left))

    pub found_small : get_or work (257 + w) 0 - get_or work w 0 < 4096
    found_small = omega (arith, count_is, some_left, size_small s (pred word) (omega (arith, d, word_few)))

    next_is_lem : (j < length (events_of in_use (site_of os cs))) × (event_at (site_of os cs) j ≡ next_of (count_in (first_events (site_of os cs) j)) (pred word))
    next_is_lem =
        let site = site_of os cs in
        let n = count_in (first_events site j) in
        let c = pred word in
        let rest = drop j (events_of in_use site) in
        let f = frontier_next in_use_lawful site n (first_events site j) rest (split_at site j) (frontier site j A.within) c (left_inside site c some_left) some_left (λ k h l. top_is_first.first (omega (arith, d)) k zero-le h l) in
        let more : j < length (events_of in_use site) = omega (arith, length-drop j (events_of in_use site), ap length f.1) in
        let e = rest_is site j more in
        (more, cc (e, f.1))

    pub found_at : At (record { 0 = word - 1 }) (record { 0 = get_or work (257 + w) 0 - get_or work w 0 + 1 }) ≡ next_is (get_elem? (events_of in_use (site_of os cs)) j)
    found_at =
        let site = site_of os cs in
        let number : word - 1 ≡ pred word = omega arith in
        let place : get_or work (257 + w) 0 - get_or work w 0 + 1 ≡ suc (count_in (first_events site j) (pred word)) = omega (arith, count_is) in
        rw (place, number, get_elem?_is (events_of in_use site) j no_event next_is_lem.0) (sym (ap (λ (e : Event). next_is (some e)) next_is_lem.1))

-- the laws of `next_event`
pub ruleset finding = (found_over, found_inside, found_within, found_small, found_at)
