-- The pieces of a sheet or a line from a place on; the first line, and what a number's reading tells.
use mathlib.Core.Path.{◌≡◌, refl, ap, ◌∙◌}
use mathlib.Core.List.{List, [], ◌∷◌}
use Prim.Native.Nat.{ℕ, zero, suc, ◌+◌, ◌≤◌, ◌<◌}
use native.Mathlib.Omega.{arith}
use borrow.Author.Tests.{eq-eqb, ne_eqb, lt-ltb, le-ltb}
use lib.ListN.{length, drop, length-drop}
use lib.Seq.{drop-drop}
use Rattle.words.proofs.Split.{by_eq, by_le}
use Rattle.sheet.specs.Read.{Read, value, refused, ◌then◌}
use Rattle.sheet.specs.Number.{value_of, digits_in, number_of}
use Rattle.sheet.specs.Pieces.{front_to, split, on_first}
use Rattle.sheet.specs.Reading.{behind, room_after, context_of, line, nothing, lines_of}
use Rattle.sheet.specs.Text.{c_key}
use Rattle.sheet.proofs.Pieces.{split_last, split_more, split_some}

-- a value is no refusal
pub no_value : {A : Type 0} {C : Type 0} {a : A} {n p : ℕ} → refused n p ≡ value a → C
no_value e = let z : ◌≡◌ {A = ℕ} 0 1 = cc in absurd (omega arith)

-- w is the piece of s from `at` on
module _ (b : ℕ) (s : List ℕ) (at : ℕ) {w : List ℕ} (q : w ≡ front_to b (drop at s)) where
  pub piece_last : at + length w ≡ length s → split b (drop at s) ≡ w ∷ []
  piece_last h = split_last b (drop at s) (rw (← q) (omega (arith, length-drop at s))) ∙ rw (← q)

  pub piece_more : at + length w < length s → split b (drop at s) ≡ w ∷ split b (drop (at + length w + 1) s)
  piece_more h =
      let e : at + suc (length w) ≡ at + length w + 1 = omega arith in
      split_more b (drop at s) (rw (← q) (omega (arith, length-drop at s))) ∙ rw (← q, drop-drop, e)

  pub piece_first : at + length w ≤ length s → (ws : List (List ℕ)) × (split b (drop at s) ≡ w ∷ ws)
  piece_first h =
      by_le (length s) (at + length w)
      (λ f. ([], piece_last (omega arith)))
      (λ f. (split b (drop (at + length w + 1) s), piece_more f))

module _ {A : Type 0} (read : ℕ → List ℕ → Read A) (s : List ℕ) (at : ℕ) {l : List ℕ} (q : l ≡ front_to 10 (drop at s)) where
  pub line_refused : {n p : ℕ} → read at l ≡ refused n p → at + length l ≤ length s → line read at (split 10 (drop at s)) ≡ refused n p
  unfolding line
  line_refused e h =
      by_le (length s) (at + length l)
      (λ f. rw (piece_last 10 s at q (omega arith), e))
      (λ f. let m = split_some 10 (drop (at + length l + 1) s) in rw (piece_more 10 s at q f, m.2, e))

  module _ {v : A} (e : read at l ≡ value v) where
    pub line_last : at + length l ≡ length s → line read at (split 10 (drop at s)) ≡ refused 9 (at + length l)
    unfolding line
    line_last h = rw (piece_last 10 s at q h, e)

    pub line_more : at + length l < length s
        → line read at (split 10 (drop at s)) ≡ value (record { got = v; next = at + length l + 1; lines = split 10 (drop (at + length l + 1) s) })
    unfolding line
    line_more h = let m = split_some 10 (drop (at + length l + 1) s) in rw (piece_more 10 s at q h, m.2, e)

-- what is read is at most 65,535, and there was room for it
pub record ReadSmall (room v : ℕ) : Type 0 where
  pub few : v ≤ 65535
  pub fits : v < room

pub number_small : (room at : ℕ) (w : List ℕ) {v : ℕ} → number_of room at w ≡ value v → ReadSmall room v
unfolding number_of
number_small room at w {v} e =
    by_eq (length (digits_in w)) 0 (λ z. no_value (rw (eq-eqb _ _ z) at e)) (λ z.
    by_le (value_of (digits_in w)) 65535 (λ f.
    by_le room (value_of (digits_in w)) (λ g. no_value (rw (ne_eqb _ _ z, le-ltb 65535 _ f, le-ltb _ room g) at e)) (λ g.
    by_le (length w) (length (digits_in w))
    (λ h. let u : value_of (digits_in w) ≡ v = cc (rw (ne_eqb _ _ z, le-ltb 65535 _ f, lt-ltb _ room g, le-ltb _ _ h) at e) in record { few = omega arith; fits = omega arith })
    (λ h. no_value (rw (ne_eqb _ _ z, le-ltb 65535 _ f, lt-ltb _ room g, lt-ltb _ _ h) at e))))
    (λ f. no_value (rw (ne_eqb _ _ z, lt-ltb 65535 _ f) at e)))

pub room_left : (most used v : ℕ) → v < room_after most used → used < most
room_left most used v h = by_le most used (λ l. absurd (omega (arith, rw (le-ltb used most l) at h))) (λ l. l)

pub behind_small : (room : ℕ) (key : List ℕ) (at : ℕ) (l : List ℕ) {v : ℕ} → behind key (number_of room) at l ≡ value v → ReadSmall room v
unfolding behind
behind_small room [] at l e = number_small room at l e
behind_small room (x ∷ key) at [] e = no_value e
behind_small room (x ∷ key) at (b ∷ l) e =
    by_eq b x (λ q. behind_small room key (suc at) l (rw (eq-eqb b x q) at e)) (λ q. no_value (rw (ne_eqb b x q) at e))

-- behind the last line
pub nothing_none : (at : ℕ) (s : List ℕ) → length s ≡ 0 → nothing at (split 10 s) ≡ value []
unfolding nothing split
nothing_none at [] h = refl
nothing_none at (b ∷ s) h = absurd (omega arith)

pub nothing_more : (at : ℕ) (s : List ℕ) → 0 < length s → nothing at (split 10 s) ≡ refused 9 at
unfolding nothing split on_first
nothing_more at [] h = absurd (omega arith)
nothing_more at (b ∷ s) h =
    let m = split_some 10 s in
    by_eq b 10 (λ e. rw (eq-eqb b 10 e, m.2)) (λ n. rw (ne_eqb b 10 n, m.2))

-- a value that comes of two readings
pub then_value : {A B : Type 0} (x : Read A) (f : A → Read B) {b : B} → (x then f) ≡ value b → (a : A) × (x ≡ value a) × (f a ≡ value b)
then_value (value a) f e = (a, refl, e)
then_value (refused n p) f e = no_value e

pub nothing_read : (at : ℕ) (ls : List (List ℕ)) {site : List (List ℕ)} → nothing at ls ≡ value site → site ≡ []
unfolding nothing
nothing_read at [] e = no_value e
nothing_read at ([] ∷ []) e = cc
nothing_read at ([] ∷ m ∷ more) e = no_value e
nothing_read at ((b ∷ l) ∷ more) e = no_value e

-- as many contexts as lines were owed
pub lines_count : (most n used at : ℕ) (ls : List (List ℕ)) {site : List (List ℕ)} → lines_of most n used at ls ≡ value site → length site ≡ n
unfolding lines_of
lines_count most zero used at ls e = rw (nothing_read at ls e)
lines_count most (suc n) used at ls {site} e =
    let c = then_value (line (behind c_key (context_of most used)) at ls) _ e in
    let r = then_value (lines_of most n (used + length c.0.got) c.0.next c.0.lines) _ c.2 in
    let s : c.0.got ∷ r.0 ≡ site = cc r.2 in
    rw (← s) (ap suc (lines_count most n _ _ _ r.1))
