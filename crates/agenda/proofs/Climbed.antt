-- A context moves on: from its leaf up to the top each node gets its new word. The invariant of `move_on` is `Ascending`.
-- From the top on, the nodes behind t have their new words, those up to t their old ones, and of those behind t / 2 and before t
-- the two are the same.
use mathlib.Core.List.{List}
use mathlib.Core.Path.{◌≡◌, refl, sym, ap, ◌∙◌}
use Prim.Native.Nat.{ℕ, ◌+◌, ◌-◌, ◌/◌, max, ◌≤◌, ◌<◌}
use native.Mathlib.Omega.{arith}
use lib.ListN.{length, get_or, set, length-set}
use lib.Seq.{get_or-set_same, get_or-set_other}
use Rattle.walk.specs.declared.Fraction.{Fraction}
use Rattle.words.proofs.Split.{by_eq}
use Rattle.agenda.specs.declared.Contender.{Contender}
use Rattle.agenda.specs.Layout.{agenda_room}
use Rattle.agenda.specs.Tournament.{left_in, leaf_word, own_word, node_word, contender_of, contender_at, top_node, NodesPlayed, Moved}
use Rattle.agenda.proofs.Nodes.{leaf_is, leaf_either}
use Rattle.agenda.proofs.Contenders.{word_is}
use Rattle.agenda.proofs.Paths.{Agrees, Apart, agrees_word, apart_leaf, apart_up, contenders_same, node_same}
use Rattle.agenda.proofs.Ranks.{left_eq, left_kept, Framed, framed_start, framed_left, framed_set, ranked_from, ranked_set}
use Rattle.agenda.proofs.Subtrees.{Subtree, subtree, Under, under_leaf, under_least, under_up}

pub record Climbing (top : ℕ) (start now : List ℕ) (t : ℕ) : Type 0 where
  pub ranked : NodesPlayed (max t (top - 1)) now
  pub small : t < 256
  pub low : 0 < top
  pub framed : Framed top start now
  pub was : ℕ → Fraction
  pub stale : (u : ℕ) → top ≤ u → u ≤ t → get_or now (514 + u) 0 ≡ node_word was u
  pub apart : Apart was (left_in start) t

-- x is left of the context of word w: the word itself, and its leaf
abbrev pub lessened : List ℕ → ℕ → ℕ → ℕ → List ℕ
lessened old w x own = set (set old w x) (769 + w) own

module _ {old : List ℕ} {n top : ℕ} (T : Subtree n top) (R : NodesPlayed (top - 1) old) (w : ℕ) (some : 0 < w) (few : w ≤ 256) (x : ℕ) {own : ℕ} (is : own ≡ leaf_word x w) where
  pub lessened_long : length (lessened old w x own) ≡ length old
  lessened_long = length-set (set old w x) (769 + w) own ∙ length-set old w x

  here : get_or (lessened old w x own) w 0 ≡ x
  here = get_or-set_other (set old w x) (769 + w) w own 0 (λ e. omega arith) ∙ get_or-set_same old w x 0 (omega (arith, R.room))

  kept : (i : ℕ) → (i ≡ w → ⊥) → (i ≡ 769 + w → ⊥) → get_or (lessened old w x own) i 0 ≡ get_or old i 0
  kept i d e = get_or-set_other (set old w x) (769 + w) i own 0 e ∙ get_or-set_other old w i x 0 d

  others : (v : ℕ) → v ≤ 256 → (v ≡ w → ⊥) → left_in old v ≡ left_in (lessened old w x own) v
  others v h d = left_eq (sym (kept v d (λ e. omega arith))) (sym (kept (257 + v) (λ e. omega arith) (λ e. omega arith)))

  leaf_apart : (u : ℕ) → (255 + w) / 2 < u → u < 512 → (u ≡ 255 + w → ⊥) → Agrees (left_in old) (left_in (lessened old w x own)) u
  leaf_apart = apart_leaf (left_in old) (left_in (lessened old w x own)) w some others

  leaf_word_lem : own ≡ node_word (left_in (lessened old w x own)) (255 + w)
  leaf_word_lem = let e : 255 + w - 255 ≡ w = omega arith in is ∙ ap (λ (y : ℕ). leaf_word y w) (sym here) ∙ sym (leaf_is (left_in (lessened old w x own)) (255 + w) (omega arith) ∙ ap (λ (v : ℕ). own_word (left_in (lessened old w x own)) v) e)

  leaf_read : (u : ℕ) → (255 + w) / 2 < u → u < 512 → get_or (lessened old w x own) (514 + u) 0 ≡ node_word (left_in (lessened old w x own)) u
  leaf_read u l h = by_eq u (255 + w)
      (λ (e : u ≡ 255 + w). let i : 514 + (255 + w) ≡ 769 + w = omega arith in rw (e, i) (get_or-set_same (set old w x) (769 + w) own 0 (omega (arith, R.room, length-set old w x)) ∙ leaf_word_lem))
      (λ d. kept (514 + u) (λ e. omega arith) (λ e. d (omega arith)) ∙ R.nodes u (omega (arith, T.high)) h ∙ agrees_word (left_in old) (left_in (lessened old w x own)) u (leaf_apart u l h d))

  climbing_start : Climbing top (lessened old w x own) (lessened old w x own) ((255 + w) / 2)
  climbing_start = record {
    ranked = record { room = omega (arith, R.room, lessened_long); nodes = λ u a b. leaf_read u (omega arith) b };
    small = omega arith;
    low = T.low;
    framed = framed_start top (lessened old w x own);
    was = left_in old;
    stale = λ u z h. kept (514 + u) (λ e. omega arith) (λ e. omega arith) ∙ R.nodes u (omega (arith, T.low)) (omega arith);
    apart = apart_up (left_in old) (left_in (lessened old w x own)) (255 + w) (omega arith) (λ u l h. leaf_apart u l (omega arith) (λ e. omega arith));
  }

  -- the top is passed
  pub climbing_end : {now : List ℕ} {t : ℕ} → Climbing top (lessened old w x own) now t → t < top → x ≡ get_or old w 0 - 1 → Moved top w old now
  climbing_end {now} {t} c h q = record {
    ranked = ranked_from c.ranked (omega arith);
    here = c.framed.front w (omega arith) ∙ here ∙ q;
    other = λ i l d. c.framed.front i l ∙ kept i d (λ e. omega (arith, l, e, T.high));
    behind = λ i l. c.framed.behind i l ∙ kept i (λ e. omega arith) (λ e. omega arith);
  }

-- one node more
climbing_next : {top : ℕ} {start now : List ℕ} {t : ℕ} → Climbing top start now t → top ≤ t → {v : ℕ} → v ≡ node_word (left_in now) t → Climbing top start (set now (514 + t) v) (t / 2)
climbing_next {top} {start} {now} {t} c h {v} e =
    let same : (u : ℕ) → 0 < u → u < 512 → node_word (left_in start) u ≡ node_word (left_in now) u = node_same (left_in start) (left_in now) (λ w k. sym (framed_left c.framed w k)) in
    let small = c.small in
    let low = c.low in
    record {
      ranked = ranked_set (ranked_from c.ranked (omega arith)) (omega arith) (omega arith) e (max (t / 2) (top - 1)) (λ u a b. c.stale u (omega arith) (omega arith) ∙ agrees_word c.was (left_in start) u (c.apart u (omega arith) b) ∙ same u (omega arith) (omega arith));
      small = omega arith;
      low = low;
      framed = framed_set c.framed t v h (omega arith);
      was = c.was;
      stale = λ u z l. get_or-set_other now (514 + t) (514 + u) v 0 (λ q. omega arith) ∙ c.stale u z (omega arith);
      apart = apart_up c.was (left_in start) t (omega arith) c.apart;
    }

-- ---- with the contender in hand

-- node t has its word, and the next is that above it
pub record Ascending (top : ℕ) (start now : List ℕ) (t : ℕ) (best : Contender) : Type 0 where
  pub climbing : Climbing top start now (t / 2)
  pub under : Under top t
  pub high : t < 512
  pub room : agenda_room ≤ length now
  pub hand : best ≡ contender_at (left_in now) t

module _ {old : List ℕ} {n top : ℕ} (T : Subtree n top) (R : NodesPlayed (top - 1) old) (w : ℕ) (some : 0 < w) (few : w ≤ 256) (x : ℕ) {own : ℕ} (is : own ≡ leaf_word x w) where
  pub ascending_start : {best : Contender} → best ≡ contender_of (left_in (lessened old w x own)) own → w ≤ n → Ascending top (lessened old w x own) (lessened old w x own) (255 + w) best
  ascending_start q h = record {
    climbing = climbing_start T R w some few x is;
    under = let e : 256 + (w - 1) ≡ 255 + w = omega arith in rw e at (under_leaf T (w - 1) (omega arith));
    high = omega arith;
    room = omega (arith, R.room, lessened_long T R w some few x is);
    hand = q ∙ ap (contender_of (left_in (lessened old w x own))) (leaf_word_lem T R w some few x is);
  }

-- all that is asked of the node above it
pub ascending_ranked : {top : ℕ} {start now : List ℕ} {t : ℕ} {best : Contender} → Ascending top start now t best → top < t → NodesPlayed (t / 2) now
ascending_ranked a h = ranked_from a.climbing.ranked (omega (arith, under_least (under_up a.under h)))

pub ascending_next : {top : ℕ} {start now : List ℕ} {t : ℕ} {best : Contender} → Ascending top start now t best → top < t → {r : Contender} → r ≡ contender_at (left_in now) (t / 2) → Ascending top start (set now (514 + t / 2) r.word) (t / 2) r
ascending_next {top} {start} {now} {t} a h {r} e =
    let after = set now (514 + t / 2) r.word in
    let high = a.high in
    let some = a.climbing.low in
    let up = under_up a.under h in
    let low = under_least up in
    record {
      climbing = climbing_next a.climbing low (ap (λ (c : Contender). c.word) e ∙ word_is (left_in now) (node_word (left_in now) (t / 2)));
      under = up;
      high = omega arith;
      room = omega (arith, a.room, length-set now (514 + t / 2) r.word);
      hand = e ∙ contenders_same (left_in now) (left_in after) (λ w k. sym (left_kept now (514 + t / 2) r.word (omega arith) w k)) (t / 2) (omega arith) (omega arith);
    }

-- ---- the context c, one of n, whose word is w

module _ {old : List ℕ} {n c : ℕ} (h : (c < n) × (n ≤ 256)) (R : NodesPlayed (top_node n - 1) old) {w : ℕ} (q : w ≡ c + 1) {own : ℕ} (is : own ≡ leaf_word (get_or old w 0 - 1) (c + 1)) where
  own_is : own ≡ leaf_word (get_or old w 0 - 1) w
  own_is = is ∙ ap (leaf_word (get_or old w 0 - 1)) (sym q)

  -- what is asked of its leaf
  pub moving_room : agenda_room ≤ length (lessened old w (get_or old w 0 - 1) own)
  moving_room = omega (arith, R.room, lessened_long (subtree n h.1) R w (omega arith) (omega (arith, h.0, h.1)) (get_or old w 0 - 1) own_is)

  pub moving_word : own ≤ 256
  moving_word = rw own_is (leaf_either (λ v. v ≤ 256) (get_or old w 0 - 1) w (omega arith) (omega (arith, h.0, h.1)))

  pub moving_start : {best : Contender} → best ≡ contender_of (left_in (lessened old w (get_or old w 0 - 1) own)) own
      → Ascending (top_node n) (lessened old w (get_or old w 0 - 1) own) (lessened old w (get_or old w 0 - 1) own) (255 + w) best
  moving_start e = ascending_start (subtree n h.1) R w (omega arith) (omega (arith, h.0, h.1)) (get_or old w 0 - 1) own_is e (omega (arith, h.0))

  pub moving_end : {now : List ℕ} {t : ℕ} {best : Contender} → Ascending (top_node n) (lessened old w (get_or old w 0 - 1) own) now t best → t ≤ top_node n → Moved (top_node n) (c + 1) old now
  moving_end a l = rw (← q) (climbing_end (subtree n h.1) R w (omega arith) (omega (arith, h.0, h.1)) (get_or old w 0 - 1) own_is a.climbing (omega (arith, l, a.climbing.low)) refl)

-- the laws of `move_on`
pub ruleset moving = (moving_start, moving_end)
