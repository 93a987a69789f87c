-- The event that is due: how it is found, what is known where there is one, and that none is left to do where there is none.
-- It joins the agenda's next event with the stop: only an event below the cut-off of what is met ends the search.
use mathlib.Core.Bool.{true, false}
use mathlib.Core.List.{◌∷◌, ◌++◌}
use mathlib.Core.List.Memᴰ.{not-nil}
use mathlib.Core.Option.{Option, none, some}
use mathlib.Core.Path.{◌≡◌, sym, ap, ◌∙◌}
use mathlib.Core.Bool.{cond}
use Prim.Native.Nat.{ℕ, suc, ◌≤◌, ◌<◌}
use native.Mathlib.Omega.{arith}
use lib.ListN.{length, get_elem?, drop, drop_of_length-le}
use Rattle.order.proofs.Lists.{cases}
use Rattle.site.specs.Ratio.{Ratio, reaches}
use Rattle.site.specs.Measure.{in_use}
use Rattle.site.specs.Site.{Site, Rising}
use Rattle.site.specs.Events.{ceiling_at, cut_of, events_of, met_after}
use Rattle.site.specs.declared.Context.{Context}
use Rattle.site.specs.declared.Place.{Place}
use Rattle.site.proofs.Measures.{in_use_lawful}
use Rattle.trail.proofs.Loop.{Unreached, unreached}
use Rattle.words.proofs.Lists.{get_elem?_is, get_elem?_none}
use Rattle.words.proofs.Split.{by_le}
use Rattle.agenda.specs.Agenda.{first_events}
use Rattle.agenda.specs.Next.{Next, At, Over, next_is, event_is, no_event}
use Rattle.agenda.proofs.Counts.{split_at, event_at, left_is}
use Rattle.agenda.proofs.Coming.{Coming, coming}
use Rattle.search.specs.Search.{due_of}

-- an event is there, or none
at_over : {X : Type 0} {c : Context} {p : Place} → At c p ≡ Over → X
at_over e = let n : ◌≡◌ {A = ℕ} 0 1 = cc e in absurd (omega arith)

module _ (site : Site) (k j : ℕ) where
  abbrev cut : Option Ratio
  cut = cut_of in_use site k (met_after in_use site j)

  due_some : j < length (events_of in_use site) → due_of site k j ≡ cond (reaches cut (ceiling_at in_use site (event_at site j))) (some (event_at site j)) none
  unfolding due_of
  due_some h = rw (get_elem?_is (events_of in_use site) j no_event h)

  due_none : length (events_of in_use site) ≤ j → due_of site k j ≡ none
  unfolding due_of
  due_none h = rw (get_elem?_none (events_of in_use site) j h)

  -- ---- how it is found

  -- no event is left
  pub due_over : {r : Next} → r ≡ next_is (get_elem? (events_of in_use site) j) → r ≡ Over → r ≡ next_is (due_of site k j)
  due_over e q = by_le (length (events_of in_use site)) j
      (λ h. q ∙ sym (ap next_is (due_none h)))
      (λ h. at_over (sym (rw (get_elem?_is (events_of in_use site) j no_event h) at e) ∙ q))

  module _ {c : Context} {p : Place} (m : Coming site j c p) where
    -- the next one is below the cut-off
    pub due_below : reaches cut (ceiling_at in_use site (event_is c p)) ≡ false → Over ≡ next_is (due_of site k j)
    due_below f = let g : reaches cut (ceiling_at in_use site (event_at site j)) ≡ false = rw m.event at f in sym (rw (due_some m.more, g))

    -- it is not
    pub due_next : {r : Next} → reaches cut (ceiling_at in_use site (event_is c p)) ≡ true → r ≡ next_is (get_elem? (events_of in_use site) j) → r ≡ next_is (due_of site k j)
    due_next t e =
        let u : reaches cut (ceiling_at in_use site (event_at site j)) ≡ true = rw m.event at t in
        rw (get_elem?_is (events_of in_use site) j no_event m.more) at e ∙ sym (rw (due_some m.more, u))

  -- ---- what it tells

  -- it is the next one, and it reaches the cut-off of what is met
  pub due_at : {c : Context} {p : Place} → next_is (due_of site k j) ≡ At c p → (next_is (get_elem? (events_of in_use site) j) ≡ At c p) × (reaches cut (ceiling_at in_use site (event_is c p)) ≡ true)
  due_at {c} {p} e = by_le (length (events_of in_use site)) j
      (λ h. at_over (sym (rw (due_none h) at e)))
      (λ h. cases (reaches cut (ceiling_at in_use site (event_at site j)))
      (λ t.
      let a : At (record { 0 = (event_at site j).context }) (record { 0 = (event_at site j).place }) ≡ At c p = rw (due_some h, t) at e in
      let n : next_is (get_elem? (events_of in_use site) j) ≡ At c p = rw (get_elem?_is (events_of in_use site) j no_event h) a in
      (n, rw (coming site j n).event t))
      (λ f. at_over (sym (rw (due_some h, f) at e))))

  -- none that is left reaches it
  pub due_end : Rising site → next_is (due_of site k j) ≡ Over → Unreached in_use site cut (drop j (events_of in_use site))
  due_end R e = by_le (length (events_of in_use site)) j
      (λ h. rw (drop_of_length-le (events_of in_use site) h) (λ f i. absurd (not-nil i)))
      (λ h. cases (reaches cut (ceiling_at in_use site (event_at site j)))
      (λ t. at_over (rw (due_some h, t) at e))
      (λ f.
      let n = left_is site j h in
      let split : first_events site j ++ event_at site j ∷ drop (suc j) (events_of in_use site) ≡ events_of in_use site = rw (← n) (split_at site j) in
      rw n (unreached in_use_lawful R (first_events site j) (event_at site j) (drop (suc j) (events_of in_use site)) split _ f)))
