-- What is known of the next event where the agenda names it:
-- it is the event behind the first j, and it occurs in the site.
use mathlib.Core.Path.{◌≡◌, sym}
use Prim.Native.Nat.{ℕ, ◌+◌, ◌<◌}
use mathlib.Core.List.{List}
use native.Mathlib.Omega.{arith}
use lib.ListN.{length, get_elem?}
use Rattle.site.specs.Measure.{in_use}
use Rattle.site.specs.Site.{Site}
use Rattle.site.specs.Events.{Occurs, events_of}
use Rattle.site.specs.Tables.{site_of}
use Rattle.site.specs.declared.Context.{Context}
use Rattle.site.specs.declared.Place.{Place}
use Rattle.site.proofs.Meeting.{event_eq}
use Rattle.words.proofs.Lists.{get_elem?_is, get_elem?_none}
use Rattle.words.proofs.Split.{by_le}
use Rattle.tables.specs.Sound.{Sound}
use Rattle.tables.proofs.Sound.{contexts_are}
use Rattle.agenda.specs.Next.{At, Over}
use Rattle.agenda.specs.Next.{next_is, event_is, no_event}
use Rattle.agenda.proofs.Counts.{event_at, next_occurs}

-- the event behind the first j is the place p of context c
pub record Coming (site : Site) (j : ℕ) (c : Context) (p : Place) : Type 0 where
  pub more : j < length (events_of in_use site)
  pub event : event_is c p ≡ event_at site j
  pub occurs : Occurs site (event_is c p)

pub coming : (site : Site) (j : ℕ) {c : Context} {p : Place} → next_is (get_elem? (events_of in_use site) j) ≡ At c p → Coming site j c p
coming site j {c} {p} e = by_le (length (events_of in_use site)) j
    (λ h. let z : Over ≡ At c p = rw (get_elem?_none (events_of in_use site) j h) at e in let n : ◌≡◌ {A = ℕ} 0 1 = cc z in absurd (omega arith))
    (λ h.
    let a : At (record { 0 = (event_at site j).context }) (record { 0 = (event_at site j).place }) ≡ At c p = rw (get_elem?_is (events_of in_use site) j no_event h) at e in
    let x : (event_at site j).context ≡ c.0 = cc a in
    let y : (event_at site j).place ≡ p.0 = cc a in
    let q : event_is c p ≡ event_at site j = event_eq _ _ (sym x) (sym y) in
    record { more = h; event = q; occurs = rw q (next_occurs site j h) })

pub coming_inside : {os cs : List ℕ} {j : ℕ} {c : Context} {p : Place} → Sound os cs → Coming (site_of os cs) j c p → c.0 + 1 < length os
coming_inside s w = omega (arith, contexts_are s, w.occurs.inside)
