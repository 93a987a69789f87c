-- How far each context has come after the first j events, and how many events there are.
-- The next event is the next place of its context.
use mathlib.Core.Bool.{Bool}
use mathlib.Core.List.{List, [], ◌∷◌, ◌++◌}
use mathlib.Core.Path.{◌≡◌, sym, ap, ◌∙◌}
use Prim.Native.Nat.{ℕ, zero, suc, ◌≤◌, ◌<◌}
use native.Mathlib.Numerals.{add-one}
use native.Mathlib.Omega.{arith}
use lib.Dec.{eqb}
use lib.ListN.{length, get_or, drop, take-append-drop, length-append}
use lib.Seq.{take-suc, drop-cons}
use Rattle.order.specs.Order.{keep}
use Rattle.order.proofs.Lists.{cases, keep_append}
use Rattle.order.proofs.Sort.{sort_length}
use Rattle.site.specs.Measure.{in_use}
use Rattle.site.specs.Site.{Site, size_of}
use Rattle.site.specs.Events.{Event, Occurs, events_in, events_of}
use Rattle.site.specs.Tables.{site_of}
use Rattle.site.proofs.Grid.{grid_length}
use Rattle.site.proofs.Measures.{in_use_lawful}
use Rattle.site.proofs.Contexts.{get_or_in}
use Rattle.site.proofs.Events.{in_occurs}
use Rattle.trail.proofs.Frontier.{Frontier, next_of, bump, frontier_start, frontier_step, frontier_same, head_next}
use Rattle.tables.specs.Sound.{Sound}
use Rattle.tables.proofs.Sound.{contexts_are, context_size, offset_rises, offset_first, offset_last}
use Rattle.agenda.specs.Agenda.{first_events, count_in}
use Rattle.agenda.specs.Next.{no_event}

-- ---- the events of sound tables are as many as the codes

pub events_many : {os cs : List ℕ} → Sound os cs → length (events_of in_use (site_of os cs)) ≡ length cs
unfolding events_of events_in
events_many {os} {cs} s =
    let n = length (site_of os cs) in
    sort_length _ (events_in (site_of os cs))
    ∙ grid_length _ (size_of (site_of os cs)) (λ i. get_or os i 0) (offset_first s) n (λ i h. rw (← add-one i) (omega (arith, context_size s i (omega (arith, contexts_are s)), offset_rises s i (omega (arith, contexts_are s)))))
    ∙ offset_last s n (contexts_are s)

-- ---- the counts after one more event

pub count_add : (done : List Event) (e : Event) (i : ℕ) → count_in (done ++ e ∷ []) i ≡ bump (count_in done) e.context i
unfolding count_in keep
count_add done e i =
    let p : Event → Bool = λ x. eqb i x.context in
    ap length (keep_append p done (e ∷ [])) ∙ length-append (keep p done) (keep p (e ∷ [])) ∙ cases (eqb i e.context) (λ t. rw t (omega arith)) (λ f. rw f (omega arith))

module _ (site : Site) where
  -- the first j and the others
  pub split_at : (j : ℕ) → first_events site j ++ drop j (events_of in_use site) ≡ events_of in_use site
  split_at j = take-append-drop j (events_of in_use site)

  -- the event behind the first j
  abbrev pub event_at : ℕ → Event
  event_at j = get_or (events_of in_use site) j no_event

  pub left_is : (j : ℕ) → j < length (events_of in_use site) → drop j (events_of in_use site) ≡ event_at j ∷ drop (suc j) (events_of in_use site)
  left_is j h = drop-cons (events_of in_use site) j no_event h

  pub one_more : (j : ℕ) → j < length (events_of in_use site) → first_events site (suc j) ≡ first_events site j ++ event_at j ∷ []
  one_more j h = take-suc (events_of in_use site) j no_event h

  -- it is its context's next place
  place_from : (j : ℕ) → j < length (events_of in_use site) → Frontier site (count_in (first_events site j)) (first_events site j) → event_at j ≡ next_of (count_in (first_events site j)) (event_at j).context
  place_from j h F = head_next in_use_lawful site (count_in (first_events site j)) (first_events site j) (drop j (events_of in_use site)) (split_at j) F (event_at j) _ (left_is j h)

  -- they are the first places of each context, as many as are counted
  pub frontier : (j : ℕ) → j ≤ length (events_of in_use site) → Frontier site (count_in (first_events site j)) (first_events site j)
  unfolding count_in keep
  frontier zero h = frontier_start site
  frontier (suc j) h =
      let e = event_at j in
      let done = first_events site j in
      let F = frontier j (omega arith) in
      rw (one_more j h) (frontier_same site _ _ (done ++ e ∷ []) (λ i. sym (count_add done e i)) (rw (← place_from j h F) at (frontier_step site (count_in done) done F e.context)))

  pub next_place : (j : ℕ) → j < length (events_of in_use site) → event_at j ≡ next_of (count_in (first_events site j)) (event_at j).context
  next_place j h = place_from j h (frontier j (omega arith))

  pub next_occurs : (j : ℕ) → j < length (events_of in_use site) → Occurs site (event_at j)
  next_occurs j h = in_occurs in_use_lawful site (event_at j) (get_or_in (events_of in_use site) j no_event h)
