-- One answer only: two results that meet a function's contract are equal, and so are the buffers that it leaves.
-- `Post` is the contract itself, as it is read from the code.
use mathlib.Core.Path.{◌≡◌, refl, sym, ap, ap₂, ◌∙◌}
use Prim.Native.Nat.{ℕ, ◌+◌}
use Rattle.std.specs.Prelude.{Option, None, Some}
use Rattle.words.proofs.OneAnswer.{OneAnswer}
use Rattle.words.specs.Words.{padded}
use Rattle.site.specs.declared.Context.{Context}
use Rattle.site.specs.declared.Place.{Place}
use Rattle.tables.specs.Accepted.{the_site}
use Rattle.agenda.specs.declared.Event.{Event}
use Rattle.agenda.specs.Agenda.{first_events, agenda_words}
use Rattle.agenda.specs.Said.{next_said, posted_said}
use Rattle.agenda.proofs.next_event.Kinds as next_event_kinds
use Rattle.agenda.proofs.next_event.Reads as next_event
use Rattle.agenda.proofs.posted_at.Kinds as posted_at_kinds
use Rattle.agenda.proofs.posted_at.Reads as posted_at
use Rattle.agenda.proofs.note_event.Kinds as note_event_kinds
use Rattle.agenda.proofs.note_event.Reads as note_event
use Rattle.agenda.proofs.prepare.Kinds as prepare_kinds
use Rattle.agenda.proofs.prepare.Reads as prepare

-- answers that say the same are equal
next_same : (u v : Option Event) → next_said u ≡ next_said v → u ≡ v
next_same None None e = refl
next_same None (Some b) e = cc e
next_same (Some a) None e = cc e
next_same (Some a) (Some b) e =
    let c : a.context ≡ b.context = cc e in
    let p : a.place ≡ b.place = cc e in
    ap₂ (λ (c : Context) (p : Place). Some (record { context = c; place = p })) c p

posted_same : (u v : Option Context) → posted_said u ≡ posted_said v → u ≡ v
posted_same None None e = refl
posted_same None (Some b) e = cc e
posted_same (Some a) None e = cc e
posted_same (Some a) (Some b) e = cc e

pub next_event_only : OneAnswer 3 next_event_kinds.ps next_event_kinds.r next_event.Post (λ κs u x. u)
next_event_only κs a u v x y p q = next_same u v (p ∙ sym q)

pub posted_at_only : OneAnswer 3 posted_at_kinds.ps posted_at_kinds.r posted_at.Post (λ κs u x. u)
posted_at_only κs a u v x y p q = posted_same u v (p ∙ sym q)

-- the work area at exit
pub note_event_only : OneAnswer 3 note_event_kinds.ps note_event_kinds.r note_event.Post (λ κs u x. x.1.0.now)
note_event_only κs a u v x y p q =
    let site = the_site a.0 in
    p.0.holds ∙ ap (λ (n : ℕ). padded n (agenda_words site (first_events site (a.1.1.0 + 1)))) (p.1 ∙ sym q.1) ∙ sym q.0.holds

pub prepare_only : OneAnswer 3 prepare_kinds.ps prepare_kinds.r prepare.Post (λ κs u x. x.1.0.now)
prepare_only κs a u v x y p q =
    let site = the_site a.0 in
    p.0.holds ∙ ap (λ (n : ℕ). padded n (agenda_words site (first_events site 0))) (p.1 ∙ sym q.1) ∙ sym q.0.holds
