-- The three loops over the codes of a context: marks of those passed, the marked ones among those passed, and none marked among them.
use mathlib.Core.Bool.{Bool, true, false, not}
use mathlib.Core.List.{List, [], ◌∷◌, ◌++◌}
use mathlib.Core.List.Memᴰ.{append_right as in_right}
use mathlib.Core.List.Memᴰ.{cases_cons as first_or_rest}
use mathlib.Core.List.Memᴰ.{not-nil}
use mathlib.Core.Logic.{⊎_elim}
use mathlib.Core.Path.{◌≡◌, refl, sym, ap, ◌∙◌}
use Prim.Native.Nat.{ℕ, suc, ◌+◌, ◌-◌, ◌*◌, ◌≤◌, ◌<◌, zero-le}
use native.Mathlib.Numerals.{add-one}
use native.Mathlib.Omega.{arith}
use borrow.Author.Tests.{eq-eqb, ne_eqb}
use lib.Dec.{eqb}
use lib.ListN.{length, get_or, take, drop, replicate, drop_of_length-le, take-append-drop}
use lib.Seq.{take-suc, take_all, drop-cons}
use Rattle.site.proofs.Contexts.{get_or_in}
use Rattle.words.proofs.Tail.{tail_is}
use Rattle.marks.specs.Marks.{code_words, HaveMarks, marks_of, with_mark, bit_of, is_marked, marked_count, marked_from}
use Rattle.marks.proofs.Marked.{marks_length, marks_none, marks_more}

pub small_at : (xs : List ℕ) → HaveMarks xs → (n : ℕ) → n < length xs → get_or xs n 0 < 4096
small_at xs s n h = s (get_or xs n 0) (get_or_in xs n 0 h)

-- a code has its mark among those of codes
pub code_marked : (xs marks : List ℕ) → length marks ≡ code_words → HaveMarks xs → (n : ℕ) → n < length xs → get_or xs n 0 < 16 * length marks
code_marked xs marks e s n h = omega (arith, e, small_at xs s n h)

pub small_by : (xs : List ℕ) → ((n : ℕ) → n < length xs → get_or xs n 0 < 4096) → HaveMarks xs
small_by [] h = λ x m. absurd (not-nil m)
small_by (y ∷ ys) h = λ x m. ⊎_elim (λ (e : x ≡ y). rw e (h 0 (omega arith))) (λ i. small_by ys (λ n l. h (suc n) (omega arith)) x i) (first_or_rest m)

-- ---- marking

-- the first n codes are marked
pub record Marking (xs marks : List ℕ) (n : ℕ) : Type 0 where
  pub within : n ≤ length xs
  pub long : length marks ≡ code_words
  pub same : marks ≡ marks_of code_words (take n xs)

pub marking_start : {xs marks : List ℕ} (old : List ℕ) → length old ≡ code_words → marks ≡ replicate (length old - 0) 0 → Marking xs marks 0
marking_start {xs} {marks} old l e =
    let n : length old - 0 ≡ code_words = omega arith in
    let m : marks ≡ marks_of code_words (take 0 xs) = e ∙ ap (λ (k : ℕ). replicate k 0) n ∙ marks_none code_words in
    record { within = zero-le; long = ap length m ∙ marks_length code_words (take 0 xs); same = m }

module _ {xs marks : List ℕ} {n : ℕ} (w : Marking xs marks n) where
  pub marking_next : n < length xs → HaveMarks xs → {out : List ℕ} → out ≡ with_mark marks (get_or xs n 0) → Marking xs out (n + 1)
  marking_next h s {out} o =
      let x = get_or xs n 0 in
      let more : take (n + 1) xs ≡ take n xs ++ x ∷ [] = rw (add-one n) (take-suc xs n 0 h) in
      let m : out ≡ marks_of code_words (take (n + 1) xs) = o ∙ ap (λ (l : List ℕ). with_mark l x) w.same ∙ marks_more (take n xs) x code_words (small_at xs s n h) ∙ ap (marks_of code_words) (sym more) in
      record { within = omega arith; long = ap length m ∙ marks_length code_words (take (n + 1) xs); same = m }

  pub marking_end : length xs ≤ n → marks ≡ marks_of code_words xs
  marking_end h = w.same ∙ ap (marks_of code_words) (take_all n xs h)

-- each step
pub ruleset markings = (code_marked, marking_start, marking_next)

-- ---- counting

-- up to i, n are counted
pub record Counting (marks ys : List ℕ) (n i : ℕ) : Type 0 where
  pub few : n ≤ i
  pub same : marked_count marks ys ≡ n + marked_count marks (drop i ys)

pub counting_start : {marks ys : List ℕ} → Counting marks ys 0 0
counting_start = record { few = zero-le; same = omega arith }

-- a mark is 1 or 0
pub mark_small : (marks : List ℕ) (y : ℕ) → bit_of marks y ≤ 1
unfolding bit_of
mark_small marks y = omega arith

module _ {marks ys : List ℕ} {n i : ℕ} (w : Counting marks ys n i) where
  pub counting_next : i < length ys → {b : ℕ} → b ≡ bit_of marks (get_or ys i 0) → Counting marks ys (n + b) (i + 1)
  unfolding marked_count
  counting_next h e =
      let s : marked_count marks (drop i ys) ≡ bit_of marks (get_or ys i 0) + marked_count marks (drop (i + 1) ys) = rw (add-one, drop-cons ys i 0 h) in
      record { few = omega (arith, w.few, e, mark_small marks (get_or ys i 0)); same = omega (arith, w.same, s, e) }

  pub counting_end : length ys ≤ i → n ≡ marked_count marks ys
  unfolding marked_count
  counting_end h = let e : marked_count marks (drop i ys) ≡ 0 = rw (drop_of_length-le ys h) in omega (arith, w.same, e)

pub ruleset countings = (code_marked, mark_small)

-- ---- looking for the first that is marked

not_not : (b : Bool) → not (not b) ≡ b
not_not true = refl
not_not false = refl

unmarked : (marks : List ℕ) (y : ℕ) {b : Bool} → b ≡ is_marked marks y → eqb (bit_of marks y) 0 ≡ not b
unfolding is_marked
unmarked marks y e = sym (ap not e ∙ not_not (eqb (bit_of marks y) 0))

-- the codes from i on
abbrev pub from_on : ℕ → List ℕ → List ℕ
from_on i ys = take (length ys - i) (drop i ys)

pub marks_from : (ys : List ℕ) (i : ℕ) → HaveMarks ys → HaveMarks (from_on i ys)
marks_from ys i h = λ x m. h x (rw (take-append-drop i ys) at (in_right (take i ys) (rw (tail_is ys i) at m)))

-- up to i none is marked
pub record Looking (marks ys : List ℕ) (x i : ℕ) : Type 0 where
  pub same : marked_from marks x ys ≡ marked_from marks x (drop i ys)

pub looking_start : {marks ys : List ℕ} {x : ℕ} → Looking marks ys x 0
looking_start = record { same = refl }

module _ {marks ys : List ℕ} {x i : ℕ} (w : Looking marks ys x i) where
  module _ (h : i < length ys) {b : Bool} (e : b ≡ is_marked marks (get_or ys i 0)) where
    -- this one is not
    pub looking_next : b ≡ false → Looking marks ys x (i + 1)
    unfolding marked_from
    looking_next f =
        let s : marked_from marks x (drop i ys) ≡ marked_from marks x (drop (i + 1) ys) = rw (add-one, drop-cons ys i 0 h, unmarked marks (get_or ys i 0) e, f) in
        record { same = w.same ∙ s }

    -- it is, and is another
    pub looking_other : b ≡ true → (get_or ys i 0 ≡ x → ⊥) → 0 ≡ marked_from marks x ys
    unfolding marked_from
    looking_other t n = sym (w.same ∙ rw (drop-cons ys i 0 h, unmarked marks (get_or ys i 0) e, t, ne_eqb (get_or ys i 0) x n))

    -- it is the one looked for
    pub looking_here : b ≡ true → get_or ys i 0 ≡ x → {n : ℕ} → n ≡ marked_count marks (from_on i ys) → n ≡ marked_from marks x ys
    unfolding marked_from
    looking_here t q c = rw (tail_is ys i) at c ∙ sym (w.same ∙ rw (drop-cons ys i 0 h, unmarked marks (get_or ys i 0) e, t, eq-eqb (get_or ys i 0) x q))

  pub looking_end : length ys ≤ i → 0 ≡ marked_from marks x ys
  unfolding marked_from
  looking_end h = sym (w.same ∙ rw (drop_of_length-le ys h))

pub ruleset lookings = (code_marked, marks_from, looking_next, looking_other, looking_here, looking_end)
