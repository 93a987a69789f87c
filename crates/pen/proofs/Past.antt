-- Lines written one after the other behind a pen's place: where they end, and that a pen which has not moved means that they do not fit.
-- `Past` for single lines, `Grown` for a loop that writes a line for each element of a list.
use mathlib.Core.Path.{◌≡◌, refl, sym, ap, ◌∙◌}
use mathlib.Core.List.{List, [], ◌++◌, append-nil, append_assoc}
use Prim.Native.Nat.{ℕ, ◌+◌, ◌-◌, ◌≤◌, ◌<◌, zero-le}
use native.Mathlib.Nat.{add-zero}
use native.Mathlib.Omega.{arith}
use borrow.Author.Tests.{le-leb, lt-leb}
use lib.ListN.{length, take, length-append}
use lib.Seq.{take_all}
use Rattle.words.proofs.Split.{by_le}
use Rattle.sheet.specs.Text.{line_text}
use Rattle.pen.specs.declared.Pen.{Pen}
use Rattle.pen.specs.Pieces.{written}
use Rattle.pen.specs.Lines.{Fits, moved_by, lined_by, Lined, Past}
use Rattle.pen.proofs.Written.{written_long, written_front}
use Rattle.pen.proofs.Grown.{Grows}
use Rattle.pen.proofs.Lined.{line_length}

-- a line has at least its byte 10
pub line_some : (key ns : List ℕ) → 0 < length (line_text key ns)
line_some key ns = omega (arith, line_length key ns)

-- the two ways of a line: it fits, and the pen is moved on behind it; it does not, and nothing has changed
module _ {bs old now : List ℕ} {p q : Pen} (w : Lined bs old now p q) where
  pub line_moved : length bs ≤ p.room → (q ≡ record { place = p.place + length bs; room = p.room - length bs }) × (now ≡ written old p.place bs)
  unfolding moved_by lined_by
  line_moved h = let l = le-leb (length bs) p.room h in (w.pen ∙ rw l, w.text ∙ rw l)

  pub line_stayed : p.room < length bs → (q ≡ p) × (now ≡ old)
  unfolding moved_by lined_by
  line_stayed h = let l = lt-leb (length bs) p.room h in (w.pen ∙ rw l, w.text ∙ rw l)

  -- either way place and room come to the same
  pub sum_kept : q.place + q.room ≡ p.place + p.room
  sum_kept =
      by_le (length bs) p.room
      (λ l. let a : q.place ≡ p.place + length bs = ap (λ (r : Pen). r.place) (line_moved l).0 in let b : q.room ≡ p.room - length bs = ap (λ (r : Pen). r.room) (line_moved l).0 in omega arith)
      (λ l. ap (λ (r : Pen). r.place + r.room) (line_stayed l).0)

  pub fits_on : Fits p old → length now ≡ length old → Fits q now
  fits_on f l = sum_kept ∙ f ∙ sym l

  -- which way it was: has the pen moved?
  pub has_room : (q.place ≡ p.place → ⊥) → length bs ≤ p.room
  has_room m = by_le (length bs) p.room (λ l. l) (λ l. absurd (m (ap (λ (r : Pen). r.place) (line_stayed l).0)))

  pub no_room : 0 < length bs → q.place ≡ p.place → p.room < length bs
  no_room s e = by_le (length bs) p.room (λ l. let f : q.place ≡ p.place + length bs = ap (λ (r : Pen). r.place) (line_moved l).0 in absurd (omega arith)) (λ l. l)

-- before any line
pub past_none : {old : List ℕ} {p : Pen} → Fits p old → Past [] old old p p
past_none f = record { fits = f; long = refl; place = rw add-zero; front = rw append-nil }

module _ {bs old mid : List ℕ} {p q : Pen} (f : Fits p old) (h : Past bs old mid p q) {cs now : List ℕ} {r : Pen} (w : Lined cs mid now q r) where
  -- a line more behind them
  pub past_fits : length cs ≤ q.room → Past (bs ++ cs) old now p r
  past_fits l =
      let n = line_moved w l in
      let a : r.place ≡ q.place + length cs = ap (λ (z : Pen). z.place) n.0 in
      let b : r.room ≡ q.room - length cs = ap (λ (z : Pen). z.room) n.0 in
      let t : q.place + length cs ≤ length mid = omega (arith, h.fits) in
      let k : length now ≡ length mid = rw n.1 (written_long mid q.place cs t) in
      record {
        fits = omega (arith, h.fits);
        long = k ∙ h.long;
        place = rw length-append (omega (arith, h.place));
        front = rw (a, n.1, written_front mid q.place cs t, h.front, append_assoc);
      }

  pub past_line : (r.place ≡ q.place → ⊥) → Past (bs ++ cs) old now p r
  past_line m = past_fits (has_room w m)

  -- they do not fit
  pub past_full : 0 < length cs → r.place ≡ q.place → p.room < length (bs ++ cs)
  past_full s e = rw length-append (omega (arith, f, h.fits, h.long, h.place, no_room w s e))

-- i elements are written, and the pen q is behind them
pub record Grown {A : Type 0} (T : List A → List ℕ) (xs : List A) (old now : List ℕ) (p q : Pen) (i : ℕ) : Type 0 where
  pub within : i ≤ length xs
  pub past : Past (T (take i xs)) old now p q

module _ {A : Type 0} {T : List A → List ℕ} {piece : ℕ → A → List ℕ} (G : Grows T piece) where
  pub grown_start : (xs : List A) {old : List ℕ} {p : Pen} → Fits p old → Grown T xs old old p p 0
  grown_start xs {old} {p} f = record { within = zero-le; past = rw G.none (past_none f) }

pub grown_end : {A : Type 0} {T : List A → List ℕ} {xs : List A} {old now : List ℕ} {p q : Pen} {i : ℕ} → Grown T xs old now p q i → length xs ≤ i → Past (T xs) old now p q
grown_end {xs = xs} {i = i} g h = rw (take_all i xs h) at g.past
