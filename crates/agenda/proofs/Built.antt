-- The nodes are built, from the last to the top, with no event done: the invariant of `build_nodes` is `Building`.
-- It rests on the contexts that `lay_contexts` has laid out (Laying).
use mathlib.Core.List.{List, [], ◌++◌, map}
use mathlib.Core.Path.{◌≡◌, sym, ap, ◌∙◌}
use Prim.Native.Nat.{ℕ, ◌+◌, ◌-◌, ◌≤◌, ◌<◌, zero-le}
use native.Mathlib.Omega.{arith}
use lib.ListN.{length, get_or, set, replicate, length-append, length-replicate}
use Rattle.order.specs.Order.{keep}
use Rattle.site.specs.Site.{up_to}
use Rattle.site.specs.Tables.{site_of, all_codes}
use Rattle.tables.specs.Sound.{Sound}
use Rattle.tables.proofs.Cuts.{all_codes_lem}
use Rattle.words.specs.Words.{padded}
use Rattle.words.proofs.Words.{padded_at}
use Rattle.agenda.specs.Agenda.{count_in, tails, agenda_words, Agenda, summed, LaidOut}
use Rattle.agenda.specs.Tournament.{left_of, left_in, node_word, top_node, NodesPlayed}
use Rattle.agenda.specs.Postings.{codes_below, starts, buckets}
use Rattle.site.proofs.Rows.{row_same}
use Rattle.agenda.proofs.Counting.{below_few}
use Rattle.agenda.proofs.Buckets.{buckets_start}
use Rattle.agenda.proofs.Worked.{known}
use Rattle.agenda.proofs.Tails.{starts_length}
use Rattle.agenda.proofs.Standing.{top_tree}
use Rattle.agenda.proofs.Summed.{summed_done}
use Rattle.agenda.proofs.Paths.{node_same}
use Rattle.agenda.proofs.Ranks.{Framed, framed_start, framed_left, framed_set, ranked_set}

-- those from t on are built
pub record Building (top : ℕ) (start now : List ℕ) (t : ℕ) : Type 0 where
  pub ranked : NodesPlayed (t - 1) now
  pub framed : Framed top start now

module _ {os cs start : List ℕ} (s : Sound os cs) (laid : LaidOut (site_of os cs) cs start) {n top : ℕ} (m : n ≡ length (site_of os cs)) (e : top ≡ top_node n) where
  is : top ≡ top_node (length (site_of os cs))
  is = e ∙ ap top_node m

  pub building_start : Building top start start 256
  building_start = record { ranked = laid.ranked; framed = framed_start top start }

  module _ {now : List ℕ} {t : ℕ} (w : Building top start now t) where
    top_low : 0 < top
    top_low = rw is (top_tree s).low

    -- one node more
    pub building_next : top < t → t ≤ 256 → {v : ℕ} → v ≡ node_word (left_in now) (t - 1) → Building top start (set now (514 + (t - 1)) v) (t - 1)
    building_next h l {v} e =
        let low = top_low in
        record {
          ranked = ranked_set w.ranked (omega arith) (omega arith) e (t - 1 - 1) (λ u a b. absurd (omega arith));
          framed = framed_set w.framed (t - 1) v (omega arith) (omega arith);
        }

    -- the starts, and buckets with nothing in them
    tails_start : (i : ℕ) → get_or now (1026 + i) 0 ≡ get_or (tails (site_of os cs) []) i 0
    unfolding tails padded starts
    tails_start i =
        let site = site_of os cs in
        let n = codes_below (all_codes site) 4096 in
        let row : map (summed 4096 cs) (up_to 4097) ≡ map (codes_below (all_codes site)) (up_to 4097) = row_same (summed 4096 cs) (codes_below (all_codes site)) 4097 (λ i k. summed_done 4096 cs i (omega arith) ∙ ap (λ (l : List ℕ). codes_below l i) (sym (all_codes_lem s))) in
        let m : 4097 + n - length (starts (all_codes site)) ≡ n = omega (arith, starts_length site) in
        let zeros : get_or (starts (all_codes site) ++ replicate n 0) i 0 ≡ get_or (starts (all_codes site)) i 0 = ap (λ (k : ℕ). get_or (starts (all_codes site) ++ replicate k 0) i 0) (sym m) ∙ padded_at (4097 + n) (starts (all_codes site)) i in
        w.framed.behind (1026 + i) (omega arith) ∙ laid.behind i ∙ ap (λ (l : List ℕ). get_or l i 0) row ∙ sym (ap (λ (l : List ℕ). get_or (starts (all_codes site) ++ l) i 0) (buckets_start site) ∙ zeros)

    tails_room : 1026 + length (tails (site_of os cs) []) ≤ length now
    unfolding tails
    tails_room =
        let site = site_of os cs in
        let n = codes_below (all_codes site) 4096 in
        omega (arith, length-append (starts (all_codes site)) (buckets site []), starts_length site, ap length (buckets_start site), length-replicate {A = ℕ} n 0, below_few (all_codes site) 4096, ap length (all_codes_lem s), s.short, w.ranked.room)

    -- all of them: the work area before the first event
    pub building_end : t ≤ top → Agenda (site_of os cs) 0 now
    unfolding agenda_words count_in keep
    building_end h =
        let site = site_of os cs in
        let f = left_of site (count_in []) in
        let low = top_low in
        let few : top ≤ 8 = rw is (top_tree s).high in
        let lefts : (v : ℕ) → v ≤ 256 → left_in now v ≡ f v = λ v l. framed_left w.framed v l ∙ laid.lefts v l in
        record {
          holds = rw (← is) (known top f (tails site []) now lefts (λ u l. w.framed.front (514 + u) (omega arith) ∙ laid.none u (omega (arith, l, few))) (λ u z l. w.ranked.nodes u (omega arith) l ∙ node_same (left_in now) f lefts u (omega (arith, z, low)) l) tails_room tails_start);
          within = zero-le;
          room = w.ranked.room;
        }

-- the laws of `build_nodes`
pub ruleset building = (building_start, building_next, building_end)
