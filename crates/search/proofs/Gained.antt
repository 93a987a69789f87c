-- The pairs met after some events: that they share a code and are met once, how many they are, and those of one event more.
-- They are the crate trail's laws of the loop, by the number of events.
use mathlib.Core.List.{List, [], ◌∷◌, ◌++◌, map, map-append, append-nil}
use mathlib.Core.List.Memᴰ.{append_left as in_left}
use mathlib.Core.Path.{◌≡◌, ap, ◌∙◌}
use Prim.Native.Nat.{ℕ, zero, suc, ◌*◌, ◌≤◌, ◌<◌}
use native.Mathlib.Omega.{arith}
use lib.ListN.{length, length-append, length-map}
use lib.Seq.{length-take-le}
use Rattle.order.specs.Order.{keep}
use Rattle.order.proofs.Lists.{keep_append, keep_few, pairwise_left}
use Rattle.site.specs.Measure.{in_use}
use Rattle.site.specs.Site.{Site, Rising, Pair}
use Rattle.site.specs.Events.{Event, events_of, meets, pair_of, met_at, met_from, met_after}
use Rattle.site.proofs.Measures.{in_use_lawful}
use Rattle.trail.proofs.Loop.{met_append, ready, in_met, met_distinct}
use Rattle.entries.specs.Listed.{Proper}
use Rattle.agenda.specs.Agenda.{first_events}
use Rattle.agenda.proofs.Counts.{split_at, event_at, one_more}

-- the first pairs of proper ones are proper
pub proper_left : {site : Site} (xs ys : List Pair) → Proper site (xs ++ ys) → Proper site xs
proper_left xs ys p = record { once = pairwise_left _ xs ys p.once; share = λ q i. p.share q (in_left ys i) }

-- ---- the pairs met at an event, by the earlier events

module _ (site : Site) (e : Event) where
  pub met_at_append : (xs ys : List Event) → met_at site (xs ++ ys) e ≡ met_at site xs e ++ met_at site ys e
  unfolding met_at
  met_at_append xs ys = ap (map (pair_of e)) (keep_append (meets site e) xs ys) ∙ map-append (pair_of e) (keep (meets site e) xs) (keep (meets site e) ys)

  pub met_at_few : (xs : List Event) → length (met_at site xs e) ≤ length xs
  unfolding met_at
  met_at_few xs = omega (arith, length-map (keep (meets site e) xs) (pair_of e), keep_few (meets site e) xs)

module _ (site : Site) where
  -- the pairs met after one event more
  pub after_next : (j : ℕ) → j < length (events_of in_use site) → met_after in_use site (suc j) ≡ met_after in_use site j ++ met_at site (first_events site j) (event_at site j)
  unfolding met_after met_from
  after_next j h = ap (met_from site []) (one_more site j h) ∙ met_append site [] (first_events site j) (event_at site j ∷ []) ∙ ap (λ (l : List Pair). met_from site [] (first_events site j) ++ l) (append-nil _)

  pub after_few : (j : ℕ) → j ≤ length (events_of in_use site) → j ≤ 4096 → length (met_after in_use site j) ≤ 4096 * j
  unfolding met_after met_from
  after_few zero h k = omega arith
  after_few (suc j) h k =
      let e = event_at site j in
      let done = first_events site j in
      omega (arith, ap length (after_next j h), length-append (met_after in_use site j) (met_at site done e), met_at_few site e done, length-take-le j (events_of in_use site) (omega arith), after_few j (omega arith) (omega arith))

  pub after_proper : Rising site → (j : ℕ) → Proper site (met_after in_use site j)
  unfolding met_after
  after_proper R j =
      let r = ready in_use_lawful R (first_events site j) _ (split_at site j) in
      record { once = met_distinct in_use_lawful R (first_events site j) r; share = λ q i. (in_met in_use_lawful R (first_events site j) r q i).0 }
