-- The contexts are laid out, one after the other, with no event done: the invariant of `lay_contexts` is `Laying`.
-- It rests on the starts that `sum_starts` has made (Prepared).
use mathlib.Core.List.{List, [], map}
use mathlib.Core.Path.{◌≡◌, sym, ap, ◌∙◌}
use Prim.Native.Nat.{ℕ, suc, pred, ◌+◌, ◌-◌, ◌≤◌, ◌<◌}
use native.Mathlib.Omega.{arith}
use lib.ListN.{length, get_or, set, replicate, length-set, length-replicate, get_or-append, get_or-eq_default}
use lib.Seq.{get_or-set_same, get_or-set_other, get_or-append-add}
use Rattle.site.specs.Site.{Site, size_of, up_to}
use Rattle.site.specs.Tables.{site_of}
use Rattle.walk.specs.declared.Fraction.{Fraction}
use Rattle.tables.specs.Sound.{Sound}
use Rattle.tables.proofs.Sound.{contexts_are, offset_rises, context_size}
use Rattle.words.specs.Words.{Holds}
use Rattle.words.proofs.Words.{padded_at, padded_none}
use Rattle.words.proofs.Split.{by_eq, by_le}
use Rattle.agenda.specs.Agenda.{summed, summed_to, SummedTo, LaidOut}
use Rattle.agenda.specs.Layout.{agenda_room}
use Rattle.agenda.specs.Tournament.{left_of, left_in, leaf_word, own_word}
use Rattle.agenda.proofs.Nodes.{leaf_is}
use Rattle.agenda.proofs.Contenders.{leaf_none}
use Rattle.agenda.proofs.Ranks.{left_eq}
use Rattle.agenda.proofs.Winners.{beyond}

-- ---- one context

abbrev pub laid_at : List ℕ → ℕ → ℕ → List ℕ
laid_at work w size = set (set (set work w size) (257 + w) size) (769 + w) (leaf_word size w)

module _ (work : List ℕ) (room : agenda_room ≤ length work) (w size : ℕ) (few : w ≤ 256) where
  laid_long : length (laid_at work w size) ≡ length work
  laid_long = length-set (set (set work w size) (257 + w) size) (769 + w) (leaf_word size w) ∙ length-set (set work w size) (257 + w) size ∙ length-set work w size

  laid_kept : (i : ℕ) → (i ≡ w → ⊥) → (i ≡ 257 + w → ⊥) → (i ≡ 769 + w → ⊥) → get_or (laid_at work w size) i 0 ≡ get_or work i 0
  laid_kept i a b c = get_or-set_other (set (set work w size) (257 + w) size) (769 + w) i (leaf_word size w) 0 c ∙ get_or-set_other (set work w size) (257 + w) i size 0 b ∙ get_or-set_other work w i size 0 a

  laid_num : get_or (laid_at work w size) w 0 ≡ size
  laid_num = get_or-set_other (set (set work w size) (257 + w) size) (769 + w) w (leaf_word size w) 0 (λ e. omega arith) ∙ get_or-set_other (set work w size) (257 + w) w size 0 (λ e. omega arith) ∙ get_or-set_same work w size 0 (omega arith)

  laid_den : get_or (laid_at work w size) (257 + w) 0 ≡ size
  laid_den = get_or-set_other (set (set work w size) (257 + w) size) (769 + w) (257 + w) (leaf_word size w) 0 (λ e. omega arith) ∙ get_or-set_same (set work w size) (257 + w) size 0 (omega (arith, length-set work w size))

  laid_leaf : get_or (laid_at work w size) (769 + w) 0 ≡ leaf_word size w
  laid_leaf = get_or-set_same (set (set work w size) (257 + w) size) (769 + w) (leaf_word size w) 0 (omega (arith, length-set work w size, length-set (set work w size) (257 + w) size))

-- ---- before the first

abbrev nothing : Fraction
nothing = record { num = 0; den = 0 }

get_or_zeros : (n i : ℕ) → get_or {A = ℕ} (replicate n 0) i 0 ≡ 0
get_or_zeros n i = ap (λ (l : List ℕ). get_or l i 0) (padded_none n) ∙ padded_at n [] i ∙ get_or-eq_default {A = ℕ} [] 0 {n = i} (omega arith)

module _ (cs : List ℕ) {work : List ℕ} (h : Holds work (summed_to 4096 cs)) where
  read : (i : ℕ) → get_or work i 0 ≡ get_or (summed_to 4096 cs) i 0
  read i = ap (λ (l : List ℕ). get_or l i 0) h ∙ padded_at (length work) (summed_to 4096 cs) i

  front_bare : (i : ℕ) → i < 1026 → get_or work i 0 ≡ 0
  unfolding summed_to
  front_bare i l = read i ∙ get_or-append {A = ℕ} (replicate 1026 0) (map (summed 4096 cs) (up_to 4097)) 0 i (omega (arith, length-replicate {A = ℕ} 1026 0)) ∙ get_or_zeros 1026 i

  starts_there : (i : ℕ) → get_or work (1026 + i) 0 ≡ get_or (map (summed 4096 cs) (up_to 4097)) i 0
  unfolding summed_to
  starts_there i = let zeros : List ℕ = replicate 1026 0 in let e : length zeros ≡ 1026 = length-replicate {A = ℕ} 1026 0 in read (1026 + i) ∙ rw (← e) (get_or-append-add zeros (map (summed 4096 cs) (up_to 4097)) i 0)

-- ---- the contexts of the words below i

pub record Laying (os cs now : List ℕ) (i : ℕ) : Type 0 where
  pub room : agenda_room ≤ length now
  pub lefts : (w : ℕ) → w < i → left_in now w ≡ left_of (site_of os cs) (λ k. 0) w
  pub bare : (w : ℕ) → i ≤ w → w ≤ 256 → left_in now w ≡ nothing
  pub leaves : (w : ℕ) → 0 < w → w ≤ 256 → get_or now (769 + w) 0 ≡ own_word (left_in now) w
  pub none : (t : ℕ) → t < 256 → get_or now (514 + t) 0 ≡ 0
  pub behind : (k : ℕ) → get_or now (1026 + k) 0 ≡ get_or (map (summed 4096 cs) (up_to 4097)) k 0

module _ {cs work : List ℕ} (h : SummedTo 4096 cs work) where
  abbrev pub one : List ℕ
  one = set work 257 1

  one_bare : (i : ℕ) → i < 1026 → (i ≡ 257 → ⊥) → get_or one i 0 ≡ 0
  one_bare i l d = get_or-set_other work 257 i 1 0 d ∙ front_bare cs h.holds i l

  one_none : (site : Site) (w : ℕ) → w < 1 → left_in one w ≡ left_of site (λ k. 0) w
  unfolding left_of
  one_none site w l = let e : w ≡ 0 = omega arith in rw e (left_eq (one_bare 0 (omega arith) (λ z. omega arith)) (get_or-set_same work 257 1 0 (omega (arith, h.room))))

  pub laying_start : (os : List ℕ) → Laying os cs one 1
  laying_start os = record {
    room = omega (arith, h.room, length-set work 257 1);
    lefts = one_none (site_of os cs);
    bare = λ w a b. left_eq (one_bare w (omega arith) (λ z. omega arith)) (one_bare (257 + w) (omega arith) (λ z. omega arith));
    leaves = λ w a b. one_bare (769 + w) (omega arith) (λ z. omega arith) ∙ leaf_none (get_or one w 0) w (one_bare w (omega arith) (λ z. omega arith));
    none = λ t l. one_bare (514 + t) (omega arith) (λ z. omega arith);
    behind = λ k. get_or-set_other work 257 (1026 + k) 1 0 (λ z. omega arith) ∙ starts_there cs h.holds k;
  }

module _ {os cs now : List ℕ} {i : ℕ} (s : Sound os cs) (w : Laying os cs now i) where
  module _ (h : 1 ≤ i) (l : i < length os) where
    pub laying_rises : get_or os (i - 1) 0 ≤ get_or os i 0
    laying_rises = let q : i - 1 + 1 ≡ i = omega arith in rw q at (offset_rises s (i - 1) (omega arith))

    inside : i ≤ 256
    inside = omega (arith, l, s.few)

    abbrev size : ℕ
    size = get_or os i 0 - get_or os (i - 1) 0

    abbrev then : List ℕ
    then = laid_at now i size

    left_here : left_in then i ≡ left_of (site_of os cs) (λ k. 0) i
    unfolding left_of
    left_here =
        let q : suc (i - 1) ≡ i = omega arith in
        let q' : i - 1 + 1 ≡ i = omega arith in
        let e : size ≡ size_of (site_of os cs) (i - 1) = sym (rw q' at (context_size s (i - 1) (omega arith))) in
        let d : size ≡ size_of (site_of os cs) (i - 1) - 0 = omega (arith, e) in
        left_eq (laid_num now w.room i size inside) (laid_den now w.room i size inside) ∙ left_eq d e ∙ ap (left_of (site_of os cs) (λ k. 0)) q

    left_other : (v : ℕ) → v ≤ 256 → (v ≡ i → ⊥) → left_in then v ≡ left_in now v
    left_other v b d =
        let few = inside in
        left_eq (laid_kept now w.room i size inside v d (λ z. omega arith) (λ z. omega arith)) (laid_kept now w.room i size inside (257 + v) (λ z. omega arith) (λ z. d (omega arith)) (λ z. omega arith))

    leaf_here : (v : ℕ) → 0 < v → v ≤ 256 → get_or then (769 + v) 0 ≡ own_word (left_in then) v
    leaf_here v a b = by_eq v i
        (λ (e : v ≡ i). rw e (laid_leaf now w.room i size inside ∙ ap (λ (x : ℕ). leaf_word x i) (sym (laid_num now w.room i size inside))))
        (λ d. let few = inside in laid_kept now w.room i size inside (769 + v) (λ z. omega arith) (λ z. omega arith) (λ z. d (omega arith)) ∙ w.leaves v a b ∙ ap (λ (x : Fraction). leaf_word x.num v) (sym (left_other v b d)))

    pub laying_next : Laying os cs then (i + 1)
    laying_next =
        let few = inside in
        record {
          room = omega (arith, w.room, laid_long now w.room i size inside);
          lefts = λ v a. by_eq v i (λ (e : v ≡ i). rw e left_here) (λ d. left_other v (omega arith) d ∙ w.lefts v (omega (arith, d)));
          bare = λ v a b. left_other v b (λ z. omega arith) ∙ w.bare v (omega arith) b;
          leaves = leaf_here;
          none = λ t a. laid_kept now w.room i size inside (514 + t) (λ z. omega arith) (λ z. omega arith) (λ z. omega arith) ∙ w.none t a;
          behind = λ k. laid_kept now w.room i size inside (1026 + k) (λ z. omega arith) (λ z. omega arith) (λ z. omega arith) ∙ w.behind k;
        }

  -- beyond the last there is nothing
  left_beyond : (k : ℕ) → length (site_of os cs) ≤ k → nothing ≡ left_of (site_of os cs) (λ k. 0) (suc k)
  unfolding left_of
  left_beyond k h = let e = beyond (site_of os cs) k h in left_eq (omega (arith, e)) (sym e)

  pub laying_end : 1 ≤ i → length os ≤ i → LaidOut (site_of os cs) cs now
  laying_end z h = record {
    ranked = record {
      room = w.room;
      nodes = λ t a b. let e : 514 + t ≡ 769 + (t - 255) = omega arith in rw e (w.leaves (t - 255) (omega arith) (omega arith) ∙ sym (leaf_is (left_in now) t (omega arith)));
    };
    lefts = λ v l. by_le i v (λ m. let e : suc (pred v) ≡ v = omega arith in w.bare v m l ∙ left_beyond (pred v) (omega (arith, h, contexts_are s)) ∙ ap (left_of (site_of os cs) (λ k. 0)) e) (λ m. w.lefts v m);
    none = w.none;
    behind = w.behind;
  }

-- the laws of `lay_contexts`
pub ruleset layings = (laying_start, laying_rises, laying_next, laying_end)
