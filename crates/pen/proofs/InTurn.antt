-- Two lines one after the other: what `two_lines` answers, as two single lines, and back; and for its callers the three ways of both.
use mathlib.Core.Path.{◌≡◌, refl, sym, ap, ◌∙◌}
use mathlib.Core.List.{List, ◌++◌}
use Prim.Native.Nat.{ℕ, ◌<◌}
use native.Mathlib.Omega.{arith}
use lib.ListN.{length, length-append}
use Rattle.words.proofs.Split.{by_le}
use Rattle.pen.specs.declared.Pen.{Pen}
use Rattle.pen.specs.declared.Twice.{Twice}
use Rattle.pen.specs.Lines.{Fits, moved_by, lined_by, Lined, LinedTwice, Past}
use Rattle.pen.specs.Added.{On, Full, Added}
use Rattle.pen.proofs.Written.{written_long}
use Rattle.pen.proofs.Past.{line_moved, line_stayed, fits_on, no_room, past_none, past_line, past_full}
use Rattle.pen.proofs.Added.{added_on, added_none}

-- a line leaves the text as long as it was
pub line_long : {bs old now : List ℕ} {p q : Pen} → Fits p old → Lined bs old now p q → length now ≡ length old
line_long {bs} {old} {now} {p} f w =
    by_le (length bs) p.room
    (λ l. ap (λ (text : List ℕ). length text) (line_moved w l).1 ∙ written_long old p.place bs (omega (arith, f)))
    (λ l. ap (λ (text : List ℕ). length text) (line_stayed w l).1)

-- two single lines are two lines in turn
pub in_turn : {bs cs old mid now : List ℕ} {p q r : Pen} → Lined bs old mid p q → Lined cs mid now q r → LinedTwice bs cs old now p (record { between = q.place; pen = r })
in_turn {cs = cs} e f = record {
  between = ap (λ (z : Pen). z.place) e.pen;
  pen = f.pen ∙ ap (λ (z : Pen). moved_by z (length cs)) e.pen;
  text = f.text ∙ (λ i. lined_by (e.pen i) cs (e.text i));
}

module _ {bs cs old now : List ℕ} {p : Pen} {r : Twice} (w : LinedTwice bs cs old now p r) where
  -- the first line
  pub first_line : Lined bs old (lined_by p bs old) p (moved_by p (length bs))
  first_line = record { pen = refl; text = refl }

  -- the second
  pub second_line : Lined cs (lined_by p bs old) now (moved_by p (length bs)) r.pen
  second_line = record { pen = w.pen; text = w.text }

  module _ (f : Fits p old) where
    -- the pen between them is that of the text between them
    pub between_fits : Fits (moved_by p (length bs)) (lined_by p bs old)
    between_fits = fits_on first_line f (line_long f first_line)

    -- the text is as long as it was
    pub both_long : length now ≡ length old
    both_long = line_long between_fits second_line ∙ line_long f first_line

    -- the pen behind both is that of the text
    pub both_fit : Fits r.pen now
    both_fit = fits_on second_line between_fits (line_long between_fits second_line)

    -- the first has no room: the pen stood between them where it stands
    pub first_full : 0 < length bs → r.between ≡ p.place → Added (bs ++ cs) old now p Full
    first_full s e = added_none both_long (rw length-append (omega (arith, no_room first_line s (sym w.between ∙ e))))

    module _ (m : r.between ≡ p.place → ⊥) where
      -- the first stands behind the pen's place
      first_past : Past bs old (lined_by p bs old) p (moved_by p (length bs))
      first_past = past_line f (past_none f) first_line (λ e. m (w.between ∙ e))

      -- the second has no room
      pub second_full : 0 < length cs → r.pen.place ≡ r.between → Added (bs ++ cs) old now p Full
      second_full s e = added_none both_long (past_full f first_past second_line s (e ∙ w.between))

      -- both stand there
      pub both_on : (r.pen.place ≡ r.between → ⊥) → Added (bs ++ cs) old now p (On r.pen)
      both_on n = added_on (past_line f first_past second_line (λ e. n (e ∙ sym w.between)))
