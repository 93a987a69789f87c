-- The words of the work area in two parts: the heads (what is left from 0 on, sizes from 257 on, nodes from 514 on) and what stands
-- behind them, from 1026 on. What is read of each, and that a work area is known by what is read.
use mathlib.Core.List.{List, ◌++◌}
use mathlib.Core.Path.{◌≡◌, sym, ap, ◌∙◌}
use Prim.Native.Nat.{ℕ, ◌+◌, ◌-◌, ◌≤◌, ◌<◌}
use native.Mathlib.Omega.{arith}
use lib.ListN.{length, get_or, set, length-append, get_or-append}
use lib.Seq.{ext_get_or, get_or-append-add, get_or-set_same, get_or-set_other}
use borrow.Author.Tests.{lt-ltb, le-ltb}
use Rattle.walk.specs.declared.Fraction.{Fraction}
use Rattle.words.specs.Words.{padded, Holds}
use Rattle.words.proofs.Words.{padded_length, padded_at}
use Rattle.words.proofs.Split.{by_eq, by_le}
use Rattle.agenda.specs.Agenda.{head_word, heads}
use Rattle.agenda.specs.Tournament.{left_in, node_word}
use Rattle.site.proofs.Rows.{row_length, row_at}
use Rattle.agenda.proofs.Ranks.{left_eq}

-- ---- the heads

module _ (top : ℕ) (f : ℕ → Fraction) where
  head_num : (w : ℕ) → w ≤ 256 → head_word top f w ≡ (f w).num
  unfolding head_word
  head_num w h = rw (lt-ltb w 257 (omega arith))

  head_den : (w : ℕ) → w ≤ 256 → head_word top f (257 + w) ≡ (f w).den
  unfolding head_word
  head_den w h = let e : 257 + w - 257 ≡ w = omega arith in rw (le-ltb (257 + w) 257 (omega arith), lt-ltb (257 + w) 514 (omega arith), e)

  head_none : (t : ℕ) → t < top → head_word top f (514 + t) ≡ 0
  unfolding head_word
  head_none t h = rw (le-ltb (514 + t) 257 (omega arith), le-ltb (514 + t) 514 (omega arith), lt-ltb (514 + t) (514 + top) (omega arith))

  head_node : (t : ℕ) → top ≤ t → head_word top f (514 + t) ≡ node_word f t
  unfolding head_word
  head_node t h = let e : 514 + t - 514 ≡ t = omega arith in rw (le-ltb (514 + t) 257 (omega arith), le-ltb (514 + t) 514 (omega arith), le-ltb (514 + t) (514 + top) (omega arith), e)

  heads_length : length (heads top f) ≡ 1026
  unfolding heads
  heads_length = row_length (head_word top f) 1026

  head_at : (i : ℕ) → i < 1026 → get_or (heads top f) i 0 ≡ head_word top f i
  unfolding heads
  head_at i h = row_at (head_word top f) 1026 i h

  -- ---- with something behind them

  module _ (tail : List ℕ) where
    whole_length : length (heads top f ++ tail) ≡ 1026 + length tail
    whole_length = omega (arith, length-append (heads top f) tail, heads_length)

    front_at : (i : ℕ) → i < 1026 → get_or (heads top f ++ tail) i 0 ≡ head_word top f i
    front_at i h = get_or-append (heads top f) tail 0 i (omega (arith, heads_length)) ∙ head_at i h

    behind_at : (i : ℕ) → get_or (heads top f ++ tail) (1026 + i) 0 ≡ get_or tail i 0
    behind_at i = rw (← heads_length) (get_or-append-add (heads top f) tail i 0)

-- what is read of a work area
module _ (top : ℕ) (f : ℕ → Fraction) (tail : List ℕ) {work : List ℕ} (h : Holds work (heads top f ++ tail)) where
  read : (i : ℕ) → get_or work i 0 ≡ get_or (heads top f ++ tail) i 0
  read i = ap (λ (l : List ℕ). get_or l i 0) h ∙ padded_at (length work) (heads top f ++ tail) i

  head_read : (i : ℕ) → i < 1026 → get_or work i 0 ≡ head_word top f i
  head_read i l = read i ∙ front_at top f tail i l

  pub left_read : (w : ℕ) → w ≤ 256 → left_in work w ≡ f w
  left_read w l = left_eq (head_read w (omega arith) ∙ head_num top f w l) (head_read (257 + w) (omega arith) ∙ head_den top f w l)

  pub none_read : (t : ℕ) → t < top → t < 512 → get_or work (514 + t) 0 ≡ 0
  none_read t z l = head_read (514 + t) (omega arith) ∙ head_none top f t z

  pub node_read : (t : ℕ) → top ≤ t → t < 512 → get_or work (514 + t) 0 ≡ node_word f t
  node_read t z l = head_read (514 + t) (omega arith) ∙ head_node top f t z

  pub tail_read : (i : ℕ) → get_or work (1026 + i) 0 ≡ get_or tail i 0
  tail_read i = read (1026 + i) ∙ behind_at top f tail i

  -- where one word behind the heads is changed
  pub tail_set : (k v i : ℕ) → k < length tail → 1026 + k < length work → get_or (set work (1026 + k) v) (1026 + i) 0 ≡ get_or (set tail k v) i 0
  tail_set k v i a b = by_eq i k
      (λ (e : i ≡ k). rw e (get_or-set_same work (1026 + k) v 0 b ∙ sym (get_or-set_same tail k v 0 a)))
      (λ d. get_or-set_other work (1026 + k) (1026 + i) v 0 (λ z. d (omega arith)) ∙ tail_read i ∙ sym (get_or-set_other tail k i v 0 d))

-- and it is known by that
module _ (top : ℕ) (f : ℕ → Fraction) (tail work : List ℕ) (lefts : (w : ℕ) → w ≤ 256 → left_in work w ≡ f w) (none : (t : ℕ) → t < top → get_or work (514 + t) 0 ≡ 0) (nodes : (t : ℕ) → top ≤ t → t < 512 → get_or work (514 + t) 0 ≡ node_word f t) where
  nums : (w : ℕ) → w ≤ 256 → get_or work w 0 ≡ (f w).num
  nums w h = ap (λ (x : Fraction). x.num) (lefts w h)

  dens : (w : ℕ) → w ≤ 256 → get_or work (257 + w) 0 ≡ (f w).den
  dens w h = ap (λ (x : Fraction). x.den) (lefts w h)

  heads_known : (i : ℕ) → i < 1026 → get_or work i 0 ≡ head_word top f i
  heads_known i l = by_le 257 i
      (λ m. by_le 514 i
      (λ k. let e : i ≡ 514 + (i - 514) = omega arith in rw e (by_le top (i - 514)
      (λ d. nodes (i - 514) d (omega arith) ∙ sym (head_node top f (i - 514) d))
      (λ d. none (i - 514) d ∙ sym (head_none top f (i - 514) d))))
      (λ k. let e : i ≡ 257 + (i - 257) = omega arith in rw e (dens (i - 257) (omega arith) ∙ sym (head_den top f (i - 257) (omega arith)))))
      (λ m. nums i (omega arith) ∙ sym (head_num top f i (omega arith)))

  pub known : 1026 + length tail ≤ length work → ((i : ℕ) → get_or work (1026 + i) 0 ≡ get_or tail i 0) → Holds work (heads top f ++ tail)
  known room t =
      let whole = heads top f ++ tail in
      let fits : length whole ≤ length work = omega (arith, whole_length top f tail) in
      ext_get_or 0 work (padded (length work) whole) (sym (padded_length (length work) whole fits)) (λ i l. at i ∙ sym (padded_at (length work) whole i))
    where
      at : (i : ℕ) → get_or work i 0 ≡ get_or (heads top f ++ tail) i 0
      at i = by_le 1026 i
          (λ l. let e : i ≡ 1026 + (i - 1026) = omega arith in rw e (t (i - 1026) ∙ sym (behind_at top f tail (i - 1026))))
          (λ l. heads_known i l ∙ sym (front_at top f tail i l))
