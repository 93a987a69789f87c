-- A line's end: how the reading of a line's text becomes the reading of the line, for any kind of line.
-- Rests on the sheet's laws of a first line.
use mathlib.Core.Path.{◌≡◌, refl, sym, ap₂, subst, ◌∙◌}
use mathlib.Core.List.{List}
use Prim.Native.Nat.{ℕ, ◌+◌, ◌≤◌, ◌<◌}
use native.Mathlib.Omega.{arith}
use borrow.Author.Tests.{lt-ltb, le-ltb}
use lib.ListN.{length, drop, length-drop}
use Rattle.words.proofs.Split.{by_le}
use Rattle.sheet.specs.Read.{Read, value, refused}
use Rattle.sheet.specs.Pieces.{split}
use Rattle.sheet.specs.Reading.{Line, line}
use Rattle.sheet.proofs.Pieces.{up_to_within}
use Rattle.sheet.proofs.Lines.{no_value, line_refused, line_last, line_more}
use Rattle.reader.specs.Part.{Part}
use Rattle.reader.specs.Part as part
use Rattle.reader.specs.Parts.{part_by, line_by, ended_by, part_ended, line_at}
use Rattle.reader.proofs.Enums.{part_value, part_refused}

-- the ways of `line_end`
module _ (end v next : ℕ) where
  -- at the end of the sheet no byte 10 stands
  pub ended_none : end ≤ next → part.Refused 9 next ≡ ended_by end v next
  unfolding ended_by
  ended_none h = rw (le-ltb next end h)

  -- before it, a byte 10 is stepped over
  pub ended_next : next < end → part.Read v (next + 1) ≡ ended_by end v next
  unfolding ended_by
  ended_next h = rw (lt-ltb next end h)

-- a line that was read: its text, and what stands behind it
pub record Placed {A : Type 0} (read : ℕ → List ℕ → Read A) (s : List ℕ) (at : ℕ) (l : Line A) : Type 0 where
  pub text : read at (line_at at s) ≡ value l.got
  pub rest : l.lines ≡ split 10 (drop l.next s)
  pub within : l.next ≤ length s

module _ {A : Type 0} (read : ℕ → List ℕ → Read A) (s : List ℕ) (at : ℕ) (h : at ≤ length s) where
  -- the line ends within the sheet
  inside : at + length (line_at at s) ≤ length s
  inside = omega (arith, up_to_within 10 (drop at s), length-drop at s)

  -- the text says v, and its end is stepped over
  ended_by_lem : (f : A → ℕ) {v : A} → read at (line_at at s) ≡ value v
      → ended_by (length s) (f v) (at + length (line_at at s)) ≡ line_by f (line read at (split 10 (drop at s)))
  unfolding ended_by line_by
  ended_by_lem f e =
      by_le (length s) (at + length (line_at at s))
      (λ g. rw (le-ltb (at + length (line_at at s)) (length s) g, line_last read s at refl e (omega (arith, inside))))
      (λ g. rw (lt-ltb (at + length (line_at at s)) (length s) g, line_more read s at refl e g))

  -- r is the reading of the line's text l
  module _ (f : A → ℕ) {l : List ℕ} (q : l ≡ line_at at s) {r : Part} (a : r ≡ part_by f (at + length l) (read at l)) where
    is_read : part_by f (at + length (line_at at s)) (read at (line_at at s)) ≡ r
    is_read = sym (a ∙ rw q)

    -- a refusal is the line's
    pub line_passed : {n p : ℕ} → r ≡ part.Refused n p → r ≡ line_by f (line read at (split 10 (drop at s)))
    unfolding line_by
    line_passed e = e ∙ rw (line_refused read s at refl (part_refused f _ _ (is_read ∙ e)) inside)

    -- a text that was read, and its end stepped over, is the line read
    pub line_ended : {v next : ℕ} → r ≡ part.Read v next → {z : Part} → z ≡ ended_by (length s) v next
        → z ≡ line_by f (line read at (split 10 (drop at s)))
    line_ended e g =
        let y = part_value f (read at (line_at at s)) (is_read ∙ e) in g ∙ ap₂ (ended_by (length s)) y.2 y.3 ∙ ended_by_lem f y.1

    -- the end of a line, whatever its text has for a reading
    over : (x : Part) → r ≡ x → part_ended (length s) x ≡ line_by f (line read at (split 10 (drop at s)))
    over (part.Read v next) e = line_ended e refl
    over (part.Refused n p) e = sym e ∙ line_passed e

    pub line_over : {z : Part} → z ≡ part_ended (length s) r → z ≡ line_by f (line read at (split 10 (drop at s)))
    line_over g = g ∙ over r refl

  -- a value is that of one line only
  same_line : {l m : Line A} → value l ≡ value m → Placed read s at l → Placed read s at m
  same_line {l} {m} e p = let q : l ≡ m = cc in subst (Placed read s at) q p

  -- by what the text says
  placed_by : (x : Read A) → read at (line_at at s) ≡ x → {l : Line A} → line read at (split 10 (drop at s)) ≡ value l → Placed read s at l
  placed_by (refused n p) e g = no_value (sym (line_refused read s at refl e inside) ∙ g)
  placed_by (value v) e g =
      by_le (length s) (at + length (line_at at s))
      (λ i. no_value (sym (line_last read s at refl e (omega (arith, inside))) ∙ g))
      (λ i. same_line (sym (line_more read s at refl e i) ∙ g) (record { text = e; rest = refl; within = omega arith }))

  -- a line that was read has its place
  pub line_placed : {l : Line A} → line read at (split 10 (drop at s)) ≡ value l → Placed read s at l
  line_placed g = placed_by (read at (line_at at s)) refl g
