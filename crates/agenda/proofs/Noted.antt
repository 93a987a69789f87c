-- The next event is noted: where its code's bucket starts, the word that is free for it there, and the work area after it.
-- These are the facts of `bucket_start` and `note_event`.
use mathlib.Core.List.{List}
use mathlib.Core.Path.{◌≡◌, sym, ap, ◌∙◌}
use Prim.Native.Nat.{ℕ, zero, suc, ◌+◌, ◌-◌, ◌≤◌, ◌<◌}
use native.Mathlib.Numerals.{add-one}
use native.Mathlib.Omega.{arith}
use lib.ListN.{length, get_or, set}
use lib.Seq.{get_or-set_other}
use Rattle.site.specs.Site.{codes_of, size_of}
use Rattle.site.specs.Events.{Event, Occurs, code_at}
use Rattle.site.specs.Tables.{site_of, all_codes}
use Rattle.site.specs.declared.Context.{Context}
use Rattle.site.specs.declared.Place.{Place}
use Rattle.walk.specs.declared.Fraction.{Fraction}
use Rattle.tables.specs.Sound.{Sound}
use Rattle.tables.proofs.Sound.{contexts_are}
use Rattle.tables.proofs.Cuts.{all_codes_lem}
use Rattle.trail.proofs.Frontier.{bump, bump_at, bump_other}
use Rattle.words.proofs.Split.{by_eq}
use Rattle.agenda.specs.Agenda.{first_events, posted_of, count_in, tails, agenda_words, Agenda}
use Rattle.agenda.specs.Next.{event_is}
use Rattle.agenda.specs.Postings.{codes_below, mark}
use Rattle.agenda.specs.Tournament.{left_of, left_in, top_node, NodesPlayed, Moved}
use Rattle.agenda.proofs.Counting.{below_few}
use Rattle.agenda.proofs.Counts.{event_at, count_add, one_more, next_place}
use Rattle.agenda.proofs.Buckets.{posting_few}
use Rattle.agenda.proofs.Worked.{tail_set, known}
use Rattle.agenda.proofs.Tails.{tails_length, mark_place, mark_inside, tails_next}
use Rattle.agenda.proofs.Standing.{code_read, event_code, top_tree, held, left_at, none_at, start_at}
use Rattle.agenda.proofs.Paths.{node_same}
use Rattle.agenda.proofs.Ranks.{left_eq, ranked_behind}
use Rattle.agenda.proofs.Found.{all_ranked}
use Rattle.agenda.proofs.Coming.{Coming, coming, coming_inside}

-- ---- the code of an event, and where its bucket starts

module _ {os cs : List ℕ} (s : Sound os cs) {c : Context} {p : Place} (o : Occurs (site_of os cs) (event_is c p)) {part : List ℕ} (e : part ≡ codes_of (site_of os cs) c.0) where
  code_is : get_or part (p.0 - 1) 0 ≡ code_at (site_of os cs) (event_is c p)
  code_is = code_read (site_of os cs) (event_is c p) e

  pub noted_small : get_or part (p.0 - 1) 0 < 4096
  noted_small = rw code_is (event_code s (event_is c p) o)

  pub start_is : {j : ℕ} {work : List ℕ} → Agenda (site_of os cs) j work → get_or work (1026 + get_or part (p.0 - 1) 0) 0 ≡ codes_below cs (code_at (site_of os cs) (event_is c p))
  start_is A = start_at s A (get_or part (p.0 - 1) 0) (omega (arith, noted_small)) ∙ ap (codes_below cs) code_is

-- ---- one event more

module _ {os cs work : List ℕ} {j : ℕ} {c : Context} {p : Place} (s : Sound os cs) (A : Agenda (site_of os cs) j work) (w : Coming (site_of os cs) j c p)
    {n start : ℕ} (q : n ≡ length (posted_of (site_of os cs) j (code_at (site_of os cs) (event_is c p)))) (a : start ≡ codes_below cs (code_at (site_of os cs) (event_is c p))) where
  few : length (site_of os cs) ≤ 256
  few = omega (arith, contexts_are s, s.few)

  small : code_at (site_of os cs) (event_at (site_of os cs) j) < 4096
  small = rw (← w.event) (event_code s (event_is c p) w.occurs)

  -- the first free word of the bucket
  place_is : start + n ≡ mark_place (site_of os cs) j w.more small
  place_is =
      let site = site_of os cs in
      let x = ap (code_at site) w.event in
      omega (arith, q, a, ap (λ (y : ℕ). length (posted_of site j y)) x, ap (codes_below cs) x, ap (λ (l : List ℕ). codes_below l (code_at site (event_at site j))) (all_codes_lem s))

  tail_room : 1026 + length (tails (site_of os cs) (first_events (site_of os cs) j)) ≤ length work
  tail_room = let site = site_of os cs in omega (arith, tails_length site (first_events site j) (posting_few site j), below_few (all_codes site) 4096, ap length (all_codes_lem s), s.short, A.room)

  pub noted_inside : 5123 + start + n < length work
  noted_inside = omega (arith, place_is, tail_room, mark_inside (site_of os cs) j w.more small)

  -- the nodes are as they were
  pub noted_ranked : NodesPlayed (top_node (length (site_of os cs)) - 1) (set work (5123 + start + n) (c.0 + 1))
  noted_ranked = ranked_behind (all_ranked s A) (5123 + start + n) (c.0 + 1) (omega arith)

  -- and so is what is left
  kept : (i : ℕ) → i < 1026 → get_or (set work (5123 + start + n) (c.0 + 1)) i 0 ≡ get_or work i 0
  kept i h = get_or-set_other work (5123 + start + n) i (c.0 + 1) 0 (λ e. omega arith)

  context_few : c.0 < 256
  context_few = omega (arith, few, w.occurs.inside)

  pub noted_context : (c.0 < length (site_of os cs)) × (length (site_of os cs) ≤ 256)
  noted_context = (w.occurs.inside, few)

  left_before : get_or work (c.0 + 1) 0 ≡ size_of (site_of os cs) c.0 - count_in (first_events (site_of os cs) j) c.0
  unfolding left_of
  left_before = rw (add-one c.0) (ap (λ (x : Fraction). x.num) (left_at s A (suc c.0) (omega (arith, context_few))))

  -- one context has come one place further
  count_next : (i : ℕ) → count_in (first_events (site_of os cs) (suc j)) i ≡ bump (count_in (first_events (site_of os cs) j)) (event_at (site_of os cs) j).context i
  count_next i = let site = site_of os cs in rw (one_more site j w.more) (count_add (first_events site j) (event_at site j) i)

  count_here : p.0 ≡ count_in (first_events (site_of os cs) (suc j)) c.0
  count_here =
      let site = site_of os cs in
      let x = ap (λ (e : Event). e.context) w.event in
      ap (λ (e : Event). e.place) (w.event ∙ next_place site j w.more) ∙ sym (ap (count_in (first_events site (suc j))) x ∙ count_next (event_at site j).context ∙ bump_at (count_in (first_events site j)) (event_at site j).context)

  place_next : p.0 ≡ suc (count_in (first_events (site_of os cs) j) c.0)
  place_next = let site = site_of os cs in ap (λ (e : Event). e.place) (w.event ∙ next_place site j w.more) ∙ ap (λ (e : Event). suc (count_in (first_events site j) e.context)) (sym w.event)

  count_other : (i : ℕ) → (i ≡ c.0 → ⊥) → count_in (first_events (site_of os cs) j) i ≡ count_in (first_events (site_of os cs) (suc j)) i
  count_other i d = let site = site_of os cs in sym (count_next i ∙ bump_other (count_in (first_events site j)) (event_at site j).context i (λ z. d (z ∙ sym (ap (λ (e : Event). e.context) w.event))))

  -- so something is left of it before
  pub noted_left : 0 < get_or (set work (5123 + start + n) (c.0 + 1)) (c.0 + 1) 0
  noted_left = omega (arith, kept (c.0 + 1) (omega (arith, context_few)), left_before, place_next, w.occurs.to_size)

  module _ {now : List ℕ} (M : Moved (top_node (length (site_of os cs))) (c.0 + 1) (set work (5123 + start + n) (c.0 + 1)) now) (long : length now ≡ length work) where
    stays : (i : ℕ) → i < 514 + top_node (length (site_of os cs)) → (i ≡ c.0 + 1 → ⊥) → get_or now i 0 ≡ get_or work i 0
    stays i h d = M.other i h d ∙ kept i (omega (arith, h, (top_tree s).high))

    left_here : left_in now (suc c.0) ≡ left_of (site_of os cs) (count_in (first_events (site_of os cs) (suc j))) (suc c.0)
    unfolding left_of
    left_here =
        let small = context_few in
        let den = ap (λ (x : Fraction). x.den) (left_at s A (suc c.0) (omega arith)) in
        let num : get_or now (c.0 + 1) 0 ≡ size_of (site_of os cs) c.0 - count_in (first_events (site_of os cs) (suc j)) c.0 = omega (arith, M.here, kept (c.0 + 1) (omega arith), left_before, place_next, count_here) in
        left_eq (rw (← add-one c.0) num) (stays (257 + suc c.0) (omega arith) (λ e. omega arith) ∙ den)

    left_other : (i : ℕ) → suc i ≤ 256 → (i ≡ c.0 → ⊥) → left_in now (suc i) ≡ left_of (site_of os cs) (count_in (first_events (site_of os cs) (suc j))) (suc i)
    unfolding left_of
    left_other i h d =
        left_eq (stays (suc i) (omega arith) (λ e. d (omega arith))) (stays (257 + suc i) (omega arith) (λ e. omega (arith, e, context_few)))
        ∙ left_at s A (suc i) h
        ∙ ap (λ (m : ℕ). record { num = size_of (site_of os cs) i - m; den = size_of (site_of os cs) i }) (count_other i d)

    left_none : left_in now 0 ≡ left_of (site_of os cs) (count_in (first_events (site_of os cs) (suc j))) 0
    unfolding left_of
    left_none = left_eq (stays 0 (omega arith) (λ e. omega arith)) (stays 257 (omega arith) (λ e. omega (arith, e, context_few))) ∙ left_at s A 0 (omega arith)

    lefts_are : (v : ℕ) → v ≤ 256 → left_in now v ≡ left_of (site_of os cs) (count_in (first_events (site_of os cs) (suc j))) v
    lefts_are zero h = left_none
    lefts_are (suc i) h = by_eq i c.0 (λ (e : i ≡ c.0). rw e left_here) (λ d. left_other i h d)

    tails_are : (i : ℕ) → get_or now (1026 + i) 0 ≡ get_or (tails (site_of os cs) (first_events (site_of os cs) (suc j))) i 0
    tails_are i =
        let site = site_of os cs in
        let k = 4097 + mark_place site j w.more small in
        let at : 5123 + start + n ≡ 1026 + k = omega (arith, place_is) in
        let m : c.0 + 1 ≡ mark (event_at site j) = add-one c.0 ∙ ap mark w.event in
        M.behind (1026 + i) (omega arith)
        ∙ rw (at, m) (tail_set _ _ _ (held s A) k (mark (event_at site j)) i (mark_inside site j w.more small) (omega (arith, tail_room, mark_inside site j w.more small)))
        ∙ ap (λ (l : List ℕ). get_or l i 0) (tails_next site j w.more small)

    pub noted : Agenda (site_of os cs) (j + 1) now
    unfolding agenda_words
    noted =
        let site = site_of os cs in
        let next = first_events site (suc j) in
        let f = left_of site (count_in next) in
        let room : 1026 + length (tails site next) ≤ length now = omega (arith, tails_length site next (posting_few site (suc j)), below_few (all_codes site) 4096, ap length (all_codes_lem s), s.short, A.room, long) in
        let T = top_tree s in
        rw (add-one j) (record {
          holds = known (top_node (length site)) f (tails site next) now lefts_are
              (λ t z. stays (514 + t) (omega arith) (λ e. omega (arith, e, context_few)) ∙ none_at s A t z (omega (arith, z, T.high)))
              (λ t z h. M.ranked.nodes t (omega (arith, z, T.low)) h ∙ node_same (left_in now) f lefts_are t (omega (arith, z, T.low)) h)
              room tails_are;
          within = w.more;
          room = omega (arith, A.room, long);
        })

-- the laws of `note_event`
pub ruleset noting = (coming, coming_inside, noted_inside, noted_ranked, noted_context, noted_left, noted)

-- the laws of `bucket_start`
pub ruleset bucketing = (contexts_are, noted_small, start_is)
