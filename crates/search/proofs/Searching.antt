-- The search after some events: its start, one event more, and its two ends. It rests on the laws of the loop (crate trail):
-- what is met is the beginning of the trail, so that a trail that has no room for it has none in the end.
use mathlib.Core.List.{List, [], ◌∷◌, ◌++◌}
use mathlib.Core.List.Memᴰ.{not-nil}
use mathlib.Core.Path.{◌≡◌, refl, sym, ap, ◌∙◌}
use Prim.Native.Nat.{ℕ, suc, ◌+◌, ◌*◌, ◌/◌, ◌≤◌, ◌<◌}
use native.Mathlib.Numerals.{add-one}
use native.Mathlib.Omega.{arith}
use lib.ListN.{length, drop, length-append}
use Rattle.site.specs.Measure.{in_use}
use Rattle.site.specs.Events.{Event, cut_off, events_of, met_from, met_after}
use Rattle.site.specs.Tables.{site_of}
use Rattle.site.specs.declared.Context.{Context}
use Rattle.site.specs.declared.Place.{Place}
use Rattle.site.proofs.Measures.{in_use_lawful}
use Rattle.site.proofs.Trail.{trail_met}
use Rattle.trail.proofs.Loop.{Reached, loop_goes, loop_ends, loop_prefix}
use Rattle.tables.specs.Sound.{Sound}
use Rattle.tables.proofs.Sound.{sound_rises}
use Rattle.marks.specs.Marks.{marks_of}
use Rattle.agenda.specs.Agenda.{first_events, Agenda}
use Rattle.agenda.specs.Next.{At, Over, next_is}
use Rattle.agenda.proofs.Counts.{events_many, split_at, left_is, one_more}
use Rattle.agenda.proofs.Coming.{Coming, coming}
use Rattle.agenda.proofs.Standing.{done_length}
use Rattle.agenda.specs.Next.{event_is}
use Rattle.search.specs.Search.{pair_words, agenda_part, pairs_part, due_of, After, Searched}
use Rattle.search.specs.Outcome.{zeros}
use Rattle.search.specs.declared.Counts.{Counts}
use Rattle.search.specs.Answer as answer
use Rattle.search.proofs.Kept.{kept_start}
use Rattle.search.proofs.Due.{due_at, due_end}

-- after j events: the buffers, every event done reaches the cut-off of all, and what is met has room
pub record Searching (os cs : List ℕ) (k j : ℕ) (list₀ work₀ buffer₀ list work buffer : List ℕ) (n : Counts) : Type 0 where
  pub after : After (site_of os cs) k (met_after in_use (site_of os cs) j) list work buffer n
  pub agenda : Agenda (site_of os cs) j (agenda_part work)
  pub reached : Reached in_use (site_of os cs) (cut_off in_use (site_of os cs) k) (first_events (site_of os cs) j)
  pub fits : 2 * length (met_after in_use (site_of os cs) j) ≤ length buffer
  pub list_long : length list ≡ length list₀
  pub work_long : length work ≡ length work₀
  pub buffer_long : length buffer ≡ length buffer₀

pub searching_start : {os cs : List ℕ} {k : ℕ} {list work buffer : List ℕ} → list ≡ zeros list → Agenda (site_of os cs) 0 (agenda_part work) → pairs_part work ≡ marks_of pair_words [] → Searching os cs k 0 list work buffer list work buffer (record { found = 0; met = 0 })
unfolding met_after met_from
searching_start {os} {cs} {k} l A e = record {
  after = record { kept = kept_start (site_of os cs) k l; seen = λ h. e };
  agenda = A;
  reached = λ f i. absurd (not-nil i);
  fits = omega arith;
  list_long = refl;
  work_long = refl;
  buffer_long = refl;
}

module _ {os cs : List ℕ} (s : Sound os cs) {k j : ℕ} {list₀ work₀ buffer₀ list work buffer : List ℕ} {n : Counts} (w : Searching os cs k j list₀ work₀ buffer₀ list work buffer n) where
  -- ---- an event is due

  module _ {c : Context} {p : Place} (d : next_is (due_of (site_of os cs) k j) ≡ At c p) where
    due_coming : Coming (site_of os cs) j c p
    due_coming = coming (site_of os cs) j (due_at (site_of os cs) k j d).0

    pub more_left : j < length cs
    more_left = omega (arith, due_coming.more, events_many s)

    next_reached : Reached in_use (site_of os cs) (cut_off in_use (site_of os cs) k) (first_events (site_of os cs) (j + 1))
    unfolding met_after
    next_reached =
        let site = site_of os cs in
        let m = due_coming in
        let e : drop j (events_of in_use site) ≡ event_is c p ∷ drop (suc j) (events_of in_use site) = left_is site j m.more ∙ ap (λ (x : Event). x ∷ drop (suc j) (events_of in_use site)) (sym m.event) in
        let g = loop_goes in_use_lawful (sound_rises s) k (first_events site j) (drop j (events_of in_use site)) (split_at site j) w.reached (event_is c p) (drop (suc j) (events_of in_use site)) e (due_at site k j d).1 in
        let f : first_events site (j + 1) ≡ first_events site j ++ event_is c p ∷ [] = rw (add-one j) (one_more site j m.more ∙ ap (λ (x : Event). first_events site j ++ x ∷ []) (sym m.event)) in
        rw f g

    module _ {list' work' buffer' : List ℕ} {n' : Counts} (after : After (site_of os cs) k (met_after in_use (site_of os cs) (j + 1)) list' work' buffer' n') where
      -- one event more
      pub searching_next : n'.met ≤ length buffer' / 2 → Agenda (site_of os cs) (j + 1) (agenda_part work') → length list' ≡ length list → length work' ≡ length work → length buffer' ≡ length buffer → Searching os cs k (j + 1) list₀ work₀ buffer₀ list' work' buffer' n'
      searching_next h agenda a b e = record {
        after = after;
        agenda = agenda;
        reached = next_reached;
        fits = omega (arith, after.kept.met);
        list_long = a ∙ w.list_long;
        work_long = b ∙ w.work_long;
        buffer_long = e ∙ w.buffer_long;
      }

      -- what is met has no room: then the whole trail has none
      pub searching_full : length buffer' / 2 < n'.met → Searched (site_of os cs) k list' buffer' (answer.Refused 8 0)
      unfolding met_after
      searching_full h =
          let site = site_of os cs in
          let t = loop_prefix in_use_lawful (sound_rises s) k (first_events site (j + 1)) (drop (j + 1) (events_of in_use site)) (split_at site (j + 1)) next_reached in
          let l = ap length t ∙ length-append (met_after in_use site (j + 1)) _ in
          record {
            full = λ z. refl;
            told = λ z. absurd (omega (arith, l, after.kept.met, trail_met in_use site k));
            listed = λ z. absurd (omega (arith, l, after.kept.met, trail_met in_use site k));
            trailed = λ z. absurd (omega (arith, l, after.kept.met, trail_met in_use site k));
          }

  -- ---- none is due: the search has its answer

  pub searching_end : next_is (due_of (site_of os cs) k j) ≡ Over → Searched (site_of os cs) k list buffer (answer.Listed n.found j n.met)
  unfolding met_after
  searching_end d =
      let site = site_of os cs in
      let a = loop_ends in_use_lawful (sound_rises s) k (first_events site j) (drop j (events_of in_use site)) (split_at site j) w.reached (due_end site k j (sound_rises s) d) in
      let found = rw (← a.listed) at w.after.kept.listed.count in
      let events = sym (ap length a.events ∙ done_length s w.agenda) in
      let met = rw (← a.trailed) at w.after.kept.met ∙ trail_met in_use site k in
      record {
        full = λ h. absurd (omega (arith, w.fits, ap length a.trailed, trail_met in_use site k));
        told = λ h i. answer.Listed (found i) (events i) (met i);
        listed = λ h. rw a.listed w.after.kept.listed.holds;
        trailed = λ h. rw a.trailed (w.after.kept.trailed w.fits);
      }
