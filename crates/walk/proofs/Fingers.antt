-- Two fingers walk along two rows of cards whose codes rise, as in the manual's chapter on Jaccard. Here is what they have passed at each
-- moment, what a move adds to that, and that nothing shared is left unseen. `shared_count` cites these laws, and no others.
use mathlib.Core.List.{List, [], ◌∷◌, ◌++◌, append-nil}
use mathlib.Core.List.Memᴰ.{append_cases}
use mathlib.Core.List.Memᴰ.{append_left as in_left}
use mathlib.Core.List.Memᴰ.{append_right as in_right}
use mathlib.Core.List.Memᴰ.{cases_cons as first_or_rest}
use mathlib.Core.List.Memᴰ.{not-nil}
use mathlib.Core.Logic.{⊎_elim}
use mathlib.Core.Path.{◌≡◌, refl, sym}
use Prim.Native.Nat.{ℕ, ◌+◌, ◌<◌, ◌≤◌, zero-le}
use native.Mathlib.Numerals.{add-one}
use native.Mathlib.Omega.{arith}
use lib.Dec.{ltb}
use lib.ListN.{length, get_or, take, drop, take-append-drop, drop_of_length-le, length-append}
use lib.Seq.{take-suc, drop-cons}
use borrow.Author.Tests.{ltb-true}
use Rattle.order.specs.Order.{◌∈◌, Sorted}
use Rattle.site.specs.Site.{common, shared}
use Rattle.walk.proofs.Left.{left_from}
use Rattle.walk.proofs.Cut.{Apart, common_cut, shared_cut, none_left, none_right, one_shared}

-- each of some cards is smaller than each of others
abbrev Smaller : List ℕ → List ℕ → Type 0
Smaller xs ys = (x y : ℕ) → x ∈ xs → y ∈ ys → x < y

-- The left finger has passed i cards and the right finger j, and n are counted: so many shared codes have been passed by both. What a
-- finger has passed is smaller than all that the other has still ahead.
pub record Fingers (left right : List ℕ) (i j n : ℕ) : Type 0 where
  pub left_in : i ≤ length left
  pub right_in : j ≤ length right
  pub few : n ≤ i
  pub counted : n ≡ shared (take i left) (take j right)
  pub left_passed : Smaller (take i left) (drop j right)
  pub right_passed : Smaller (take j right) (drop i left)

-- ---- one finger

-- it goes from place i to place i' of its row, and passes these cards
record Passes (row : List ℕ) (i i' : ℕ) (cards : List ℕ) : Type 0 where
  inside : i' ≤ length row
  passed : take i' row ≡ take i row ++ cards
  ahead : drop i row ≡ cards ++ drop i' row

moves_on : (row : List ℕ) (i : ℕ) → i < length row → Passes row i (i + 1) (get_or row i 0 ∷ [])
moves_on row i h = record { inside = omega arith; passed = rw (add-one i) (take-suc row i 0 h); ahead = rw (add-one i) (drop-cons row i 0 h) }

stays : (row : List ℕ) (i : ℕ) → i ≤ length row → Passes row i i []
stays row i h = record { inside = h; passed = sym (append-nil (take i row)); ahead = refl }

-- no card at all, and a single one
none_smaller : (ys : List ℕ) → Smaller [] ys
none_smaller ys x y m k = absurd (not-nil m)

one_smaller : (x : ℕ) (ys : List ℕ) → ((y : ℕ) → y ∈ ys → x < y) → Smaller (x ∷ []) ys
one_smaller x ys h z y m k = ⊎_elim (λ (e : z ≡ x). rw e (h y k)) (λ i. absurd (not-nil i)) (first_or_rest m)

module _ (row : List ℕ) (i : ℕ) (s : Sorted ltb row) (h : i < length row) where
  -- the card at a finger is smaller than all that follow it
  card_smaller : (y : ℕ) → y ∈ drop (i + 1) row → get_or row i 0 < y
  card_smaller y m = ltb-true (get_or row i 0) y ((left_from row i s h).0 y (rw (add-one i) at m))

  -- so a smaller card is smaller than all that the finger has ahead
  below_smaller : (x : ℕ) → x < get_or row i 0 → (y : ℕ) → y ∈ drop i row → x < y
  below_smaller x b y m = ⊎_elim (λ (e : y ≡ get_or row i 0). omega (arith, e)) (λ k. omega (arith, card_smaller y k)) (first_or_rest (rw (moves_on row i h).ahead at m))

-- where the cards that it passes now are smaller than what is ahead of the other finger, all that it has passed is so
still_smaller : {row other cards others : List ℕ} {i i' j j' : ℕ} → Passes row i i' cards → Passes other j j' others
    → Smaller (take i row) (drop j other) → Smaller cards (drop j' other) → Smaller (take i' row) (drop j' other)
still_smaller {row} {other} {others = others} {i} {j = j} p q before now x y m k =
    let was : y ∈ drop j other = rw q.ahead (in_right others k) in
    ⊎_elim (λ l. before x y l was) (λ l. now x y l k) (append_cases (take i row) (rw p.passed at m))

-- ---- both fingers: the moves

-- on the first cards nothing is passed
pub fingers_start : {left right : List ℕ} → Fingers left right 0 0 0
fingers_start {left} {right} = record { left_in = zero-le; right_in = zero-le; few = zero-le; counted = sym (none_left []); left_passed = none_smaller right; right_passed = none_smaller left }

module _ {left right xs ys : List ℕ} {i i' j j' n n' : ℕ} (w : Fingers left right i j n) (p : Passes left i i' xs) (q : Passes right j j' ys) where
  -- the fingers pass these cards: what the cards share is shared besides
  moved : Smaller xs (drop j' right) → Smaller ys (drop i' left) → n' ≤ i' → n' ≡ n + shared xs ys → Fingers left right i' j' n'
  moved l r few e =
      let left-apart : Apart (take i left) ys = λ z m k. omega (arith, w.left_passed z z m (rw q.ahead (in_left (drop j' right) k))) in
      let right-apart : Apart (take j right) xs = λ z m k. omega (arith, w.right_passed z z m (rw p.ahead (in_left (drop i' left) k))) in
      let more = shared_cut (take i left) xs (take j right) ys left-apart right-apart in
      record {
        left_in = p.inside;
        right_in = q.inside;
        few = few;
        counted = rw (p.passed, q.passed) (omega (arith, more, e, w.counted));
        left_passed = still_smaller p q w.left_passed l;
        right_passed = still_smaller q p w.right_passed r;
      }

module _ {left right : List ℕ} {i j n : ℕ} (w : Fingers left right i j n) (hi : i < length left) (hj : j < length right) where
  -- both are on the same code: it is counted, and both move on
  pub both_move : Sorted ltb left → Sorted ltb right → get_or left i 0 ≡ get_or right j 0 → Fingers left right (i + 1) (j + 1) (n + 1)
  both_move rl rr e =
      let x = get_or left i 0 in
      let y = get_or right j 0 in
      moved w (moves_on left i hi) (moves_on right j hj) (one_smaller x _ (rw e (card_smaller right j rr hj))) (one_smaller y _ (rw (← e) (card_smaller left i rl hi))) (omega arith) (rw (e, one_shared y))

  -- the left one is on the smaller code: it moves on
  pub left_moves : Sorted ltb right → get_or left i 0 < get_or right j 0 → Fingers left right (i + 1) j n
  left_moves rr h =
      let x = get_or left i 0 in
      moved w (moves_on left i hi) (stays right j w.right_in) (one_smaller x _ (below_smaller right j rr hj x h)) (none_smaller _) (omega arith) (omega (arith, none_right (x ∷ [])))

  -- the right one is
  pub right_moves : Sorted ltb left → get_or right j 0 ≤ get_or left i 0 → (get_or left i 0 ≡ get_or right j 0 → ⊥) → Fingers left right i (j + 1) n
  right_moves rl le ne =
      let y = get_or right j 0 in
      moved w (stays left i w.left_in) (moves_on right j hj) (none_smaller _) (one_smaller y _ (below_smaller left i rl hi y (omega arith))) w.few (omega (arith, none_left (y ∷ [])))

-- ---- and the end

module _ {left right : List ℕ} {i j n : ℕ} (w : Fingers left right i j n) where
  -- nothing shared is left unseen: it has been passed by both fingers, or is still ahead of both
  pub none_unseen : common left right ≡ common (take i left) (take j right) ++ common (drop i left) (drop j right)
  none_unseen =
      let left-apart : Apart (take i left) (drop j right) = λ z m k. omega (arith, w.left_passed z z m k) in
      let right-apart : Apart (take j right) (drop i left) = λ z m k. omega (arith, w.right_passed z z m k) in
      let all = common_cut (take i left) (drop i left) (take j right) (drop j right) left-apart right-apart in
      rw (take-append-drop i left, take-append-drop j right) at all

  -- so where nothing shared is ahead, all of it is counted
  all_counted : shared (drop i left) (drop j right) ≡ 0 → n ≡ shared left right
  unfolding shared
  all_counted none =
      let all : shared left right ≡ shared (take i left) (take j right) + shared (drop i left) (drop j right) = rw (none_unseen, length-append) in
      omega (arith, all, none, w.counted)

  -- a finger is past its row's end
  pub left_past_end : length left ≤ i → n ≡ shared left right
  left_past_end h = all_counted (rw (drop_of_length-le left h) (none_left (drop j right)))

  pub right_past_end : length right ≤ j → n ≡ shared left right
  right_past_end h = all_counted (rw (drop_of_length-le right h) (none_right (drop i left)))
