-- Lines written behind a pen, or that they do not fit.
use Rattle.std.specs.Prelude.{cond, ◌≡◌, List, ℕ, ◌<◌, leb, length, Option, None, Some}
use Rattle.pen.specs.declared.Pen.{Pen}
use Rattle.pen.specs.Lines.{moved_by, lined_by, Past}

-- the pen behind what was written, or that it does not fit
abbrev pub Penned : Type 0
Penned = Option Pen

abbrev pub On : Pen → Penned
On q = Some q

abbrev pub Full : Penned
Full = None

-- a line or lines, bs, written behind the pen p: the pen behind them, or no room for them
pub record Added (bs old now : List ℕ) (p : Pen) (r : Penned) : Type 0 where
  pub long : length now ≡ length old
  pub on : (q : Pen) → r ≡ On q → Past bs old now p q
  pub full : r ≡ Full → p.room < length bs

-- one line, bs: the pen moved on behind it, or no room for it, and text as it was
pub record LinedIf (bs old now : List ℕ) (p : Pen) (r : Penned) : Type 0 where
  pub pen : r ≡ cond (leb (length bs) p.room) (On (moved_by p (length bs))) Full
  pub text : now ≡ lined_by p bs old
