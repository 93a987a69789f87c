-- An earlier event at the code of this one: it is of another context, which has the code too, and what meets with it meets with that context.
use mathlib.Core.List.{[], ◌∷◌}
use mathlib.Core.Path.{◌≡◌, sym, ap, ◌∙◌}
use Prim.Native.Nat.{ℕ, suc, pred, ◌≤◌, ◌<◌}
use native.Mathlib.Omega.{arith}
use lib.ListN.{length, get_or}
use lib.Dec.{eqb}
use borrow.Author.Tests.{eq-eqb, ne_eqb}
use Rattle.order.specs.Order.{◌∈◌, keep}
use Rattle.order.proofs.Lists.{cases, keep_out}
use Rattle.site.specs.Site.{Site, Rising, codes_of, size_of}
use Rattle.site.specs.Events.{Event, Occurs, code_at, first_place, meets, pair_of, met_at, posting_of}
use Rattle.site.specs.declared.Context.{Context}
use Rattle.site.specs.declared.Place.{Place}
use Rattle.site.proofs.Contexts.{get_or_in, rising_place}
use Rattle.agenda.specs.Agenda.{first_events, count_in, posted_of}
use Rattle.agenda.specs.Next.{event_is, no_event}
use Rattle.agenda.proofs.Counts.{frontier, next_place}
use Rattle.agenda.proofs.Coming.{Coming}
use Rattle.agenda.proofs.Marks.{posted_is_lem}
use Rattle.search.specs.Search.{Beside, first_here, met_with}

-- an event done has its place in front of its context's next one
module _ {site : Site} (R : Rising site) {n : ℕ} {c : Context} {p : Place} (m : Coming site n c p) where
  done_other : (g : Event) → g ∈ first_events site n → Occurs site g → code_at site g ≡ code_at site (event_is c p) → g.context ≡ c.0 → ⊥
  done_other g i o q e =
      let just = (frontier site n (omega (arith, m.more))).just g i in
      let next = m.event ∙ next_place site n m.more in
      let code : get_or (codes_of site c.0) (pred g.place) 0 ≡ get_or (codes_of site c.0) (pred p.0) 0 = rw e at q in
      let size : g.place ≤ size_of site c.0 = rw e at o.to_size in
      let same = rising_place (codes_of site c.0) (R.rises c.0) (pred g.place) (pred p.0) (omega (arith, size, o.from_one)) (omega (arith, m.occurs.from_one, m.occurs.to_size)) code in
      let place : p.0 ≡ suc (count_in (first_events site n) c.0) = ap (λ (x : Event). x.place) next ∙ ap (λ (x : Event). suc (count_in (first_events site n) x.context)) (sym m.event) in
      let before : g.place ≤ count_in (first_events site n) c.0 = rw e at just in
      omega (arith, same, place, before, o.from_one, m.occurs.from_one)

  pub earlier_beside : {x j : ℕ} {d : Context} → x ≡ code_at site (event_is c p) → j < length (posted_of site n x) → (get_or (posted_of site n x) j no_event).context ≡ d.0 → Beside site c p d
  unfolding posting_of
  earlier_beside {x} {j} {d} q h e =
      let g = get_or (posted_of site n x) j no_event in
      let done = (keep_out (λ f. eqb (code_at site f) x) (first_events site n) (get_or_in (posted_of site n x) j no_event h)).0 in
      let known = posted_is_lem site n x j h in
      let code : code_at site g ≡ code_at site (event_is c p) = known.1 ∙ q in
      let held : code_at site g ∈ codes_of site g.context = get_or_in (codes_of site g.context) (pred g.place) 0 (omega (arith, known.0.from_one, known.0.to_size)) in
      let held' : code_at site (event_is c p) ∈ codes_of site g.context = rw code at held in
      record {
        occurs = m.occurs;
        inside = rw e at known.0.inside;
        other = λ z. done_other g done known.0 code (e ∙ z);
        code = rw e at held';
      }

-- what meets with it
pub met_with_lem : {site : Site} {c : Context} {p : Place} {d : Context} → Beside site c p d → (g : Event) → g.context ≡ d.0 → code_at site g ≡ code_at site (event_is c p) → met_at site (g ∷ []) (event_is c p) ≡ met_with site c p d
unfolding met_at met_with keep meets first_here pair_of
met_with_lem {site} {c} {p} {d} b g e q =
    rw (ne_eqb c.0 g.context (λ z. b.other (sym (z ∙ e))), eq-eqb (code_at site (event_is c p)) (code_at site g) (sym q), e)
    (cases (eqb p.0 (first_place (codes_of site c.0) (codes_of site d.0))) (λ t. rw t) (λ f. rw f))
