-- What stands behind the heads: where each bucket starts, and the buckets. What is read of them, and what one event more changes.
use mathlib.Core.List.{List, [], ◌∷◌, ◌++◌, map}
use mathlib.Core.Path.{◌≡◌, sym, ap, ◌∙◌}
use Prim.Native.Nat.{ℕ, suc, ◌+◌, ◌<◌}
use native.Mathlib.Omega.{arith}
use lib.ListN.{length, get_or, set, length-append, get_or-append}
use lib.Seq.{get_or-append-add}
use Rattle.site.specs.Measure.{in_use}
use Rattle.site.specs.Site.{Site}
use Rattle.site.specs.Events.{Event, code_at, events_of, posting_of}
use Rattle.site.specs.Tables.{all_codes}
use Rattle.agenda.specs.Agenda.{first_events, tails}
use Rattle.agenda.specs.Postings.{often, codes_below, mark, starts, buckets}
use Rattle.site.proofs.Rows.{row_length, row_at}
use Rattle.agenda.proofs.Rows.{set_append_add}
use Rattle.agenda.proofs.Counting.{below_suc, below_rises}
use Rattle.agenda.proofs.Counts.{event_at, one_more}
use Rattle.agenda.proofs.Buckets.{PostingsFit, posting_few, posting_room, span_is, bucket_at, buckets_next}

module _ (site : Site) where
  pub starts_length : length (starts (all_codes site)) ≡ 4097
  unfolding starts
  starts_length = row_length (codes_below (all_codes site)) 4097

  module _ (done : List Event) where
    pub tails_length : PostingsFit site done → length (tails site done) ≡ 4097 + codes_below (all_codes site) 4096
    unfolding tails buckets
    tails_length fits = omega (arith, length-append (starts (all_codes site)) (buckets site done), starts_length, span_is site done fits 4096)

    pub start_word : (x : ℕ) → x < 4097 → get_or (tails site done) x 0 ≡ codes_below (all_codes site) x
    unfolding tails starts
    start_word x h = get_or-append (starts (all_codes site)) (buckets site done) 0 x (omega (arith, starts_length)) ∙ row_at (codes_below (all_codes site)) 4097 x h

    pub mark_word_lem : PostingsFit site done → (x n : ℕ) → x < 4096 → n < often (all_codes site) x → get_or (tails site done) (4097 + (codes_below (all_codes site) x + n)) 0 ≡ get_or (map mark (posting_of site done x)) n 0
    unfolding tails
    mark_word_lem fits x n h k = rw (← starts_length) (get_or-append-add (starts (all_codes site)) (buckets site done) (codes_below (all_codes site) x + n) 0 ∙ bucket_at site done fits x n h k)

  -- ---- one event more

  module _ (j : ℕ) (h : j < length (events_of in_use site)) where
    fits_next : PostingsFit site (first_events site j ++ event_at site j ∷ [])
    fits_next = λ x. rw (← one_more site j h) (posting_few site (suc j) x)

    -- there is a word for it
    pub next_room : length (posting_of site (first_events site j) (code_at site (event_at site j))) < often (all_codes site) (code_at site (event_at site j))
    next_room = posting_room site (first_events site j) (event_at site j) fits_next

    module _ (small : code_at site (event_at site j) < 4096) where
      -- where it stands
      abbrev pub mark_place : ℕ
      mark_place = codes_below (all_codes site) (code_at site (event_at site j)) + length (posting_of site (first_events site j) (code_at site (event_at site j)))

      pub mark_inside : 4097 + mark_place < length (tails site (first_events site j))
      mark_inside = let x = code_at site (event_at site j) in omega (arith, tails_length (first_events site j) (posting_few site j), next_room, below_suc (all_codes site) x, below_rises (all_codes site) (suc x) 4096 small)

      pub tails_next : set (tails site (first_events site j)) (4097 + mark_place) (mark (event_at site j)) ≡ tails site (first_events site (suc j))
      unfolding tails
      tails_next =
          let sts = starts (all_codes site) in
          let done = first_events site j in
          rw (← starts_length) (set_append_add sts (buckets site done) mark_place (mark (event_at site j)))
          ∙ ap (λ (l : List ℕ). sts ++ l) (buckets_next site done (event_at site j) fits_next (posting_few site j) small ∙ ap (buckets site) (sym (one_more site j h)))
