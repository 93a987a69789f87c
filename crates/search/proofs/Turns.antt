-- One event's turn: the pairs met so far, and the earlier events at its code that are passed.
-- The record `Turning` is the turn's loop; its end is what is met after one event more.
use mathlib.Core.Bool.{Bool}
use mathlib.Core.List.{List, [], ◌∷◌, ◌++◌, append_assoc, append-nil}
use mathlib.Core.Path.{◌≡◌, refl, sym, ap, ◌∙◌}
use Prim.Native.Nat.{ℕ, suc, ◌+◌, ◌-◌, ◌≤◌, ◌<◌, zero-le}
use native.Mathlib.Numerals.{add-one}
use native.Mathlib.Omega.{arith}
use lib.ListN.{length, get_or, get_elem?, take, drop, length-append, take-append-drop}
use lib.Seq.{take-suc, take_all, length-take-le}
use Rattle.order.specs.Order.{keep}
use Rattle.site.specs.Measure.{in_use}
use Rattle.site.specs.Site.{Site, Pair, codes_of}
use Rattle.site.specs.Events.{Event, code_at, met_at, met_after}
use Rattle.site.specs.Tables.{site_of}
use Rattle.site.specs.declared.Context.{Context}
use Rattle.site.specs.declared.Place.{Place}
use Rattle.trail.proofs.Gathered.{met_at_posting}
use Rattle.tables.specs.Sound.{Sound}
use Rattle.tables.proofs.Sound.{sound_rises}
use Rattle.entries.specs.Entries.{Ordered}
use Rattle.entries.specs.Listed.{Proper}
use Rattle.entries.proofs.Listed.{listed_few, listed_ordered}
use Rattle.agenda.specs.Agenda.{first_events, posted_of, Agenda}
use Rattle.agenda.specs.Next.{event_is, no_event}
use Rattle.agenda.specs.Postings.{Posted, At, Over, posted_is}
use Rattle.agenda.proofs.Counts.{events_many}
use Rattle.agenda.proofs.Coming.{Coming}
use Rattle.agenda.proofs.Standing.{code_read}
use Rattle.agenda.proofs.Noted.{noted_small}
use Rattle.agenda.proofs.Marks.{posted_over, posted_here, posted_is_lem, posted_short}
use Rattle.search.specs.Search.{Beside, met_with, Wide, RoomFor, agenda_part, AgendaIn, Remarked, Laid, After, Meets}
use Rattle.search.specs.declared.Counts.{Counts}
use Rattle.search.specs.declared.Progress.{Progress}
use Rattle.search.proofs.Kept.{after_same}
use Rattle.search.proofs.Earlier.{earlier_beside, met_with_lem}
use Rattle.search.proofs.Gained.{proper_left, met_at_append, met_at_few, after_next, after_few, after_proper}

module _ (site : Site) (n x : ℕ) where
  -- with an event at code x only the earlier ones there meet
  met_at_earlier : (e : Event) → x ≡ code_at site e → met_at site (first_events site n) e ≡ met_at site (posted_of site n x) e
  unfolding met_at
  met_at_earlier e q = rw q (met_at_posting site (first_events site n) e)

-- j of the earlier events at its code x are passed
pub record Turning (os cs : List ℕ) (k n : ℕ) (c : Context) (p : Place) (x j : ℕ) (list₀ work₀ buffer₀ list work buffer : List ℕ) (t : Progress) : Type 0 where
  pub sound : Sound os cs
  pub agenda : Agenda (site_of os cs) n (agenda_part work)
  pub same : agenda_part work ≡ agenda_part work₀
  pub laid : Laid (site_of os cs) c t.marked work
  pub wide : Wide work
  pub coming : Coming (site_of os cs) n c p
  pub code : x ≡ code_at (site_of os cs) (event_is c p)
  pub small : x < 4096
  pub room : RoomFor k list
  pub after : After (site_of os cs) k (met_after in_use (site_of os cs) n ++ met_at (site_of os cs) (take j (posted_of (site_of os cs) n x)) (event_is c p)) list work buffer t.counts
  pub passed : j ≤ length (posted_of (site_of os cs) n x)
  pub list_long : length list ≡ length list₀
  pub work_long : length work ≡ length work₀
  pub buffer_long : length buffer ≡ length buffer₀

-- its code is one that has a bucket
pub turning_small : {os cs : List ℕ} {n : ℕ} {c : Context} {p : Place} {part : List ℕ} → Sound os cs → Coming (site_of os cs) n c p → part ≡ codes_of (site_of os cs) c.0 → get_or part (p.0 - 1) 0 < 4096
turning_small s m e = noted_small s m.occurs e

pub turning_start : (work₀ : List ℕ) {os cs work : List ℕ} {k n : ℕ} {c : Context} {p : Place} {part list buffer : List ℕ} {t : Counts} {marked : Bool} → Sound os cs → AgendaIn (site_of os cs) n work₀ → Coming (site_of os cs) n c p → part ≡ codes_of (site_of os cs) c.0
    → RoomFor k list → After (site_of os cs) k (met_after in_use (site_of os cs) n) list work₀ buffer t → length work ≡ length work₀ → Remarked work₀ work → Laid (site_of os cs) c marked work
    → Turning os cs k n c p (get_or part (p.0 - 1) 0) 0 list work buffer list work buffer (record { counts = t; marked = marked })
unfolding met_at keep
turning_start work₀ {os} {cs} {work} {k} {n} {c} {p} s A m e r w long same laid = record {
  sound = s;
  agenda = rw same.0 A.1;
  same = refl;
  laid = laid;
  wide = rw long A.0;
  coming = m;
  code = code_read (site_of os cs) (event_is c p) e;
  small = turning_small s m e;
  room = r;
  after = rw (append-nil (met_after in_use (site_of os cs) n)) (after_same w same.1);
  passed = zero-le;
  list_long = refl;
  work_long = refl;
  buffer_long = refl;
}

module _ {os cs : List ℕ} {k n : ℕ} {c : Context} {p : Place} {x j : ℕ} {list₀ work₀ buffer₀ list work buffer : List ℕ} {t : Progress} (w : Turning os cs k n c p x j list₀ work₀ buffer₀ list work buffer t) where
  pub earlier_few : length (posted_of (site_of os cs) n x) ≤ 4096
  earlier_few = posted_short w.sound n x

  -- what the turn may do next
  pub turning_few : (t.counts.found ≤ k) × (t.counts.met ≤ 16777216)
  turning_few =
      let site = site_of os cs in
      let front = take j (posted_of site n x) in
      let a = met_after in_use site n in
      let b = met_at site front (event_is c p) in
      let f : length b ≤ 4096 = omega (arith, met_at_few site (event_is c p) front, length-take-le j (posted_of site n x) w.passed, w.passed, earlier_few) in
      let m : n < 4096 = omega (arith, w.coming.more, events_many w.sound, w.sound.short) in
      (listed_few (sound_rises w.sound) w.after.kept.listed, omega (arith, w.after.kept.met, length-append a b, f, after_few site n (omega (arith, w.coming.more)) (omega arith)))

  -- the pairs met after the turn, by the earlier events at the code
  turned : met_after in_use (site_of os cs) (suc n) ≡ met_after in_use (site_of os cs) n ++ met_at (site_of os cs) (posted_of (site_of os cs) n x) (event_is c p)
  turned =
      let site = site_of os cs in
      after_next site n w.coming.more ∙ ap (λ (l : List Pair). met_after in_use site n ++ l) (ap (met_at site (first_events site n)) (sym w.coming.event) ∙ met_at_earlier site n x (event_is c p) w.code)

  -- those with the first i of these are proper
  passed_proper : (i : ℕ) → Proper (site_of os cs) (met_after in_use (site_of os cs) n ++ met_at (site_of os cs) (take i (posted_of (site_of os cs) n x)) (event_is c p))
  passed_proper i =
      let site = site_of os cs in
      let all = posted_of site n x in
      let a = met_after in_use site n in
      let front = met_at site (take i all) (event_is c p) in
      let behind = met_at site (drop i all) (event_is c p) in
      let m : met_at site all (event_is c p) ≡ front ++ behind = ap (λ (l : List Event). met_at site l (event_is c p)) (sym (take-append-drop i all)) ∙ met_at_append site (event_is c p) (take i all) (drop i all) in
      let whole : met_after in_use site (suc n) ≡ (a ++ front) ++ behind = turned ∙ ap (λ (l : List Pair). a ++ l) m ∙ sym (append_assoc a front behind) in
      proper_left (a ++ front) behind (rw whole at (after_proper site (sound_rises w.sound) (suc n)))

  pub turning_ordered : Ordered list t.counts.found
  turning_ordered = listed_ordered (sound_rises w.sound) w.after.kept.listed (passed_proper j)

  passed_more : j < length (posted_of (site_of os cs) n x)
      → met_after in_use (site_of os cs) n ++ met_at (site_of os cs) (take (j + 1) (posted_of (site_of os cs) n x)) (event_is c p)
      ≡ met_after in_use (site_of os cs) n ++ met_at (site_of os cs) (take j (posted_of (site_of os cs) n x)) (event_is c p) ++ met_at (site_of os cs) (get_or (posted_of (site_of os cs) n x) j no_event ∷ []) (event_is c p)
  passed_more h =
      let site = site_of os cs in
      let all = posted_of site n x in
      let g = get_or all j no_event in
      let grown : take (j + 1) all ≡ take j all ++ g ∷ [] = rw (add-one j) (take-suc all j no_event h) in
      rw (grown, met_at_append site (event_is c p) (take j all) (g ∷ [])) (sym (append_assoc (met_after in_use site n) (met_at site (take j all) (event_is c p)) (met_at site (g ∷ []) (event_is c p))))

  -- ---- what `posted_at` tells

  module _ {r : Posted} (e : r ≡ posted_is (get_elem? (posted_of (site_of os cs) n x) j)) where
    -- all are passed
    pub turning_end : r ≡ Over → After (site_of os cs) k (met_after in_use (site_of os cs) (n + 1)) list work buffer t.counts × ((agenda_part work ≡ agenda_part work₀) × (j ≡ length (posted_of (site_of os cs) n (code_at (site_of os cs) (event_is c p)))))
    turning_end o =
        let all = posted_of (site_of os cs) n x in
        let end = posted_over all j (sym e ∙ o) in
        let z : take j all ≡ all = take_all j all end in
        (rw (add-one n, turned, ← z) w.after, (w.same, rw (← w.code) (omega (arith, end, w.passed))))

    module _ {d : Context} (o : r ≡ At d) where
      -- the next of them
      pub turning_more : j < length (posted_of (site_of os cs) n x)
      turning_more = (posted_here (posted_of (site_of os cs) n x) j (sym e ∙ o)).0

      pub turning_beside : Beside (site_of os cs) c p d
      turning_beside = earlier_beside (sound_rises w.sound) w.coming w.code turning_more (posted_here (posted_of (site_of os cs) n x) j (sym e ∙ o)).1

      -- it is passed
      pub turning_next : {list' work' buffer' : List ℕ} {t' : Progress} → Meets (site_of os cs) k (met_with (site_of os cs) c p d) list work buffer t.counts list' work' buffer' t'.counts
          → agenda_part work' ≡ agenda_part work → Laid (site_of os cs) c t'.marked work'
          → length list' ≡ length list → length work' ≡ length work → length buffer' ≡ length buffer → Turning os cs k n c p x (j + 1) list₀ work₀ buffer₀ list' work' buffer' t'
      turning_next meets front laid l v b =
          let site = site_of os cs in
          let now = met_after in_use site n ++ met_at site (take j (posted_of site n x)) (event_is c p) in
          let g = get_or (posted_of site n x) j no_event in
          let more = passed_more turning_more ∙ ap (λ (l : List Pair). now ++ l) (met_with_lem turning_beside g (posted_here (posted_of site n x) j (sym e ∙ o)).1 ((posted_is_lem site n x j turning_more).1 ∙ w.code)) in
          let proper : Proper site (now ++ met_with site c p d) = rw more at (passed_proper (j + 1)) in
          record {
            sound = w.sound;
            agenda = rw front w.agenda;
            same = front ∙ w.same;
            laid = laid;
            wide = omega (arith, w.wide, v);
            coming = w.coming;
            code = w.code;
            small = w.small;
            room = rw l w.room;
            after = rw more (meets now proper w.after);
            passed = omega (arith, turning_more);
            list_long = l ∙ w.list_long;
            work_long = v ∙ w.work_long;
            buffer_long = b ∙ w.buffer_long;
          }
