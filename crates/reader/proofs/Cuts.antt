-- The cut of a text at a byte b: what stands before the next b. Rests on the sheet's laws of pieces.
use mathlib.Core.Bool.{not}
use mathlib.Core.Path.{◌≡◌, refl, sym, ap, ◌∙◌}
use mathlib.Core.List.{List, [], ◌∷◌}
use Prim.Native.Nat.{ℕ, ◌+◌, ◌-◌, ◌≤◌}
use native.Mathlib.Omega.{arith}
use lib.Dec.{eqb}
use borrow.Author.Tests.{eq-eqb, ne_eqb}
use lib.ListN.{length, take, drop, length-take, length-drop}
use lib.Seq.{length-take-le}
use Rattle.std.specs.List.{prefix_len, take_while}
use Rattle.std.proofs.lemmas.List.Folds.{length-prefix_len}
use Rattle.words.proofs.Split.{by_eq}
use Rattle.words.proofs.Tail.{tail_is}
use Rattle.sheet.specs.Pieces.{front_to}
use Rattle.sheet.proofs.Pieces.{up_to_within, take_up_to}

-- the bytes before the next b, counted
front_is : (b : ℕ) (s : List ℕ) → prefix_len (λ x. not (eqb x b)) s ≡ length (front_to b s)
unfolding front_to
front_is b [] = refl
front_is b (x ∷ s) = let h = front_is b s in by_eq x b (λ e. rw (eq-eqb x b e)) (λ d. rw (ne_eqb x b d) (omega arith))

pub front_counted : (b : ℕ) (s : List ℕ) {n : ℕ} → n ≡ length (take_while (λ x. not (eqb x b)) s) → n ≡ length (front_to b s)
front_counted b s e = e ∙ length-prefix_len (λ x. not (eqb x b)) s ∙ front_is b s

-- so many bytes of the rest of a text from `at` on
module _ (s : List ℕ) (at b : ℕ) where
  abbrev rest : List ℕ
  rest = take (length s - at) (drop at s)

  -- are there
  pub piece_taken : {n : ℕ} → n ≡ length (front_to b rest) → n ≡ length (take n rest)
  piece_taken {n} e = sym (length-take-le n rest (rw e (up_to_within b rest)))

  -- are the piece
  pub piece_cut : {n : ℕ} → n ≡ length (front_to b rest) → take n rest ≡ front_to b (drop at s)
  piece_cut e = rw e (take_up_to b rest ∙ ap (front_to b) (tail_is s at))

  -- and stand within the text
  pub piece_within : at ≤ length s → (n : ℕ) → at + length (take n rest) ≤ length s
  piece_within h n = simp (length-take, length-drop) (omega arith)

-- the ways of `piece_from`
pub ruleset cutting = (piece_taken, piece_cut, piece_within)
