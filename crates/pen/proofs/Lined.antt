-- A line: how it is measured and written, how it is seen from the whole text, and the pen behind it.
use mathlib.Core.Bool.{Bool, true, false}
use mathlib.Core.Path.{◌≡◌, sym, ◌∙◌}
use mathlib.Core.List.{List, [], ◌∷◌, ◌++◌}
use Prim.Native.Nat.{ℕ, ◌+◌, ◌-◌, ◌≤◌, ◌<◌}
use native.Mathlib.Nat.{zero-add}
use native.Mathlib.Omega.{arith}
use lib.Dec.{leb}
use borrow.Author.Tests.{le-leb, lt-leb, leb-true, leb-false}
use borrow.Rule.Slice.PartMut.{put_mid}
use lib.ListN.{length, take, drop, length-append}
use Rattle.words.proofs.Split.{by_le}
use Rattle.sheet.specs.Text.{codes_text, line_text}
use Rattle.pen.specs.declared.Pen.{Pen}
use Rattle.pen.specs.Pieces.{written, Wrote}
use Rattle.pen.specs.Lines.{Fits, moved_by, lined_by, Lined}
use Rattle.pen.proofs.Written.{wrote_then, tail_wrote}

-- how long a line is
pub line_length : (key ns : List ℕ) → length (line_text key ns) ≡ length key + length (codes_text ns) + 1
unfolding line_text
line_length key ns = rw (length-append, length-append)

-- the ways of `line_fits`: no room behind the key; as the numbers fit behind it
module _ (room : ℕ) (key ns : List ℕ) where
  pub key_full : room ≤ length key → false ≡ leb (length (line_text key ns)) room
  key_full h = sym (lt-leb (length (line_text key ns)) room (omega (arith, line_length key ns)))

  pub line_measured : length key < room → {r : Bool} → r ≡ leb (length (codes_text ns)) (room - length key - 1) → r ≡ leb (length (line_text key ns)) room
  line_measured h e =
      by_le (length (line_text key ns)) room
      (λ l. e ∙ rw (le-leb (length (codes_text ns)) (room - length key - 1) (omega (arith, line_length key ns)), le-leb (length (line_text key ns)) room l))
      (λ l. e ∙ rw (lt-leb (length (codes_text ns)) (room - length key - 1) (omega (arith, line_length key ns)), lt-leb (length (line_text key ns)) room l))

-- key, numbers and byte 10 are a line
pub line_wrote : (key ns : List ℕ) {old first second now : List ℕ} {a b r : ℕ} → length (line_text key ns) ≤ length old
    → Wrote key 0 old first a → Wrote (codes_text ns) a first second b → Wrote (10 ∷ []) b second now r → Wrote (line_text key ns) 0 old now r
unfolding line_text
line_wrote key ns h u v w =
    let l = line_length key ns in
    let m : length (key ++ codes_text ns) ≡ length key + length (codes_text ns) = length-append key (codes_text ns) in
    wrote_then (omega arith) (wrote_then (omega arith) u v) w

-- the two ways of a line
module _ {bs old now : List ℕ} {p q : Pen} where
  pub lined_fits : length bs ≤ p.room → q ≡ record { place = p.place + length bs; room = p.room - length bs } → now ≡ written old p.place bs → Lined bs old now p q
  unfolding moved_by lined_by
  lined_fits h e f = let l = le-leb (length bs) p.room h in record { pen = rw l e; text = rw l f }

  pub lined_stays : p.room < length bs → q ≡ p → now ≡ old → Lined bs old now p q
  unfolding moved_by lined_by
  lined_stays h e f = let l = lt-leb (length bs) p.room h in record { pen = rw l e; text = rw l f }

-- what the measure tells
pub told_fits : (bs : List ℕ) (room : ℕ) {r : Bool} → r ≡ leb (length bs) room → r ≡ true → length bs ≤ room
told_fits bs room e t = leb-true (length bs) room (sym e ∙ t)

pub told_full : (bs : List ℕ) (room : ℕ) {r : Bool} → r ≡ leb (length bs) room → r ≡ false → room < length bs
told_full bs room e t = leb-false (length bs) room (sym e ∙ t)

-- a line in the lent rest of the text, if it fits
module _ (p : Pen) (old : List ℕ) (f : Fits p old) (bs : List ℕ) where
  pub rest_lined : length bs ≤ p.room → {part : List ℕ} {n : ℕ} → Wrote bs 0 (take (length old - p.place) (drop p.place old)) part n
      → Lined bs old (put_mid p.place (length old - p.place) old part) p (record { place = p.place + n; room = p.room - n })
  rest_lined h {n = n} w =
      let e : n ≡ length bs = rw zero-add at w.end in
      lined_fits h (rw e) (tail_wrote old p.place bs e (w.text ∙ rw zero-add)).text
