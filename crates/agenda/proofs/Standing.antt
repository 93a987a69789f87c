-- The work area after j events, over sound tables: what is read there.
-- It rests on the words of the work area (Worked), and on the tables' codes being those of their site.
use mathlib.Core.List.{List, ◌++◌, map}
use mathlib.Core.Path.{◌≡◌, ap, ◌∙◌}
use Prim.Native.Nat.{ℕ, suc, pred, ◌+◌, ◌-◌, ◌≤◌, ◌<◌}
use native.Mathlib.Omega.{arith}
use lib.ListN.{length, get_or}
use lib.Seq.{length-take-le}
use Rattle.site.specs.Measure.{in_use}
use Rattle.site.specs.Site.{Site, codes_of}
use Rattle.site.specs.Events.{Event, Occurs, code_at, events_of}
use Rattle.site.specs.Tables.{site_of, all_codes}
use Rattle.tables.specs.Sound.{Sound}
use Rattle.tables.proofs.Sound.{contexts_are, place_small}
use Rattle.tables.proofs.Cuts.{all_codes_lem}
use Rattle.words.specs.Words.{Holds}
use Rattle.agenda.specs.Agenda.{first_events, posted_of, count_in, heads, tails, agenda_words, Agenda}
use Rattle.agenda.specs.Tournament.{left_of, left_in, node_word, top_node}
use Rattle.agenda.specs.Postings.{often, codes_below, mark}
use Rattle.agenda.proofs.Counting.{below_few, below_suc}
use Rattle.agenda.proofs.Buckets.{posting_few}
use Rattle.agenda.proofs.Subtrees.{Subtree, subtree}
use Rattle.agenda.proofs.Worked.{left_read, none_read, node_read, tail_read}
use Rattle.agenda.proofs.Tails.{start_word, mark_word_lem}

pred_is : (n : ℕ) → n - 1 ≡ pred n
pred_is n = omega arith

-- the code of an event, read from its context
pub code_read : (site : Site) (e : Event) {part : List ℕ} → part ≡ codes_of site e.context → get_or part (e.place - 1) 0 ≡ code_at site e
code_read site e c = rw c (ap (λ (n : ℕ). get_or (codes_of site e.context) n 0) (pred_is e.place))

module _ {os cs : List ℕ} (s : Sound os cs) where
  -- the code of an event of the site
  pub event_code : (e : Event) → Occurs (site_of os cs) e → code_at (site_of os cs) e < 4096
  event_code e o = place_small s e.context (pred e.place) (omega (arith, contexts_are s, o.inside)) (omega (arith, o.from_one, o.to_size))

  -- the subtree in which the contexts of the tables play
  pub top_tree : Subtree (length (site_of os cs)) (top_node (length (site_of os cs)))
  top_tree = subtree (length (site_of os cs)) (omega (arith, contexts_are s, s.few))

  -- no code has more events than places
  pub posted_few : (j x : ℕ) → length (posted_of (site_of os cs) j x) ≤ often cs x
  posted_few j x = omega (arith, posting_few (site_of os cs) j x, ap (λ (l : List ℕ). often l x) (all_codes_lem s))

module _ {os cs : List ℕ} (s : Sound os cs) {j : ℕ} {work : List ℕ} (A : Agenda (site_of os cs) j work) where
  pub done_length : length (first_events (site_of os cs) j) ≡ j
  done_length = length-take-le j (events_of in_use (site_of os cs)) A.within

  -- the words in front, and those behind them
  pub held : Holds work (heads (top_node (length (site_of os cs))) (left_of (site_of os cs) (count_in (first_events (site_of os cs) j))) ++ tails (site_of os cs) (first_events (site_of os cs) j))
  unfolding agenda_words
  held = A.holds

  -- what is left of every context, and the word of each node from the top on
  pub left_at : (w : ℕ) → w ≤ 256 → left_in work w ≡ left_of (site_of os cs) (count_in (first_events (site_of os cs) j)) w
  left_at w h = left_read _ _ _ held w h

  pub none_at : (t : ℕ) → t < top_node (length (site_of os cs)) → t < 512 → get_or work (514 + t) 0 ≡ 0
  none_at t z h = none_read _ _ _ held t z h

  pub node_at : (t : ℕ) → top_node (length (site_of os cs)) ≤ t → t < 512 → get_or work (514 + t) 0 ≡ node_word (left_of (site_of os cs) (count_in (first_events (site_of os cs) j))) t
  node_at t z h = node_read _ _ _ held t z h

  -- where the bucket of code x starts
  pub start_at : (x : ℕ) → x < 4097 → get_or work (1026 + x) 0 ≡ codes_below cs x
  start_at x h = tail_read _ _ _ held x ∙ start_word (site_of os cs) (first_events (site_of os cs) j) x h ∙ ap (λ (l : List ℕ). codes_below l x) (all_codes_lem s)

  -- and where it ends
  pub end_at : (x : ℕ) → x < 4096 → get_or work (1027 + x) 0 ≡ codes_below cs x + often cs x
  end_at x h = let e : 1027 + x ≡ 1026 + suc x = omega arith in rw e (start_at (suc x) (omega arith) ∙ below_suc cs x)

  -- the n-th word there
  pub mark_at : (x n : ℕ) → x < 4096 → n < often cs x → get_or work (5123 + codes_below cs x + n) 0 ≡ get_or (map mark (posted_of (site_of os cs) j x)) n 0
  mark_at x n h k =
      let site = site_of os cs in
      let o : n < often (all_codes site) x = omega (arith, k, ap (λ (l : List ℕ). often l x) (all_codes_lem s)) in
      let i : 5123 + codes_below cs x + n ≡ 1026 + (4097 + (codes_below (all_codes site) x + n)) = omega (arith, ap (λ (l : List ℕ). codes_below l x) (all_codes_lem s)) in
      rw i (tail_read _ _ _ held (4097 + (codes_below (all_codes site) x + n)) ∙ mark_word_lem site (first_events site j) (posting_few site j) x n h o)

  -- what the bounds of a bucket are
  pub bucket_inside : (x n : ℕ) → x < 4096 → n < often cs x → 5123 + codes_below cs x + n < length work
  bucket_inside x n h k = omega (arith, A.room, s.short, below_suc cs x, below_few cs (suc x))
