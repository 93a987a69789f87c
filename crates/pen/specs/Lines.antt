-- A line written into the rest of a text, and the pen moved on behind it.
use Rattle.std.specs.Prelude.{cond, ◌≡◌, List, ◌++◌, ℕ, ◌+◌, ◌-◌, leb, length, take}
use Rattle.pen.specs.declared.Pen.{Pen}
use Rattle.pen.specs.declared.Twice.{Twice}
use Rattle.pen.specs.Pieces.{written}

-- the pen's place and its room are those of the text
abbrev pub Fits : Pen → List ℕ → Type 0
Fits p text = p.place + p.room ≡ length text

-- a pen at the front of a text
abbrev pub front_pen : List ℕ → Pen
front_pen text = record { place = 0; room = length text }

-- moved on by n bytes if there is room for them, else as it is
unfoldable pub moved_by : Pen → ℕ → Pen
moved_by p n = cond (leb n p.room) (record { place = p.place + n; room = p.room - n }) p

-- the text with a line at the pen's place if there is room for it, else as it is
unfoldable pub lined_by : Pen → List ℕ → List ℕ → List ℕ
lined_by p bs text = cond (leb (length bs) p.room) (written text p.place bs) text

-- what a line's bytes make of the text and of the pen
pub record Lined (bs old now : List ℕ) (p q : Pen) : Type 0 where
  pub pen : q ≡ moved_by p (length bs)
  pub text : now ≡ lined_by p bs old

-- two lines one after the other, bs and then cs: where the pen stood between them, and pen and text behind both
pub record LinedTwice (bs cs old now : List ℕ) (p : Pen) (r : Twice) : Type 0 where
  pub between : r.between ≡ (moved_by p (length bs)).place
  pub pen : r.pen ≡ moved_by (moved_by p (length bs)) (length cs)
  pub text : now ≡ lined_by (moved_by p (length bs)) cs (lined_by p bs old)

-- bs stand behind the place of p, and q behind them
pub record Past (bs old now : List ℕ) (p q : Pen) : Type 0 where
  pub fits : Fits q now
  pub long : length now ≡ length old
  pub place : q.place ≡ p.place + length bs
  pub front : take q.place now ≡ take p.place old ++ bs
