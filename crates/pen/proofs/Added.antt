-- Lines behind a pen: `Added` for one line, and for two pieces one after the other.
use mathlib.Core.List.{List, ◌++◌, append_assoc}
use mathlib.Core.Path.{◌≡◌, refl, sym, ap, subst, ◌∙◌}
use Prim.Native.Nat.{ℕ, ◌+◌, ◌<◌}
use native.Mathlib.Omega.{arith}
use borrow.Author.Tests.{le-leb, lt-leb}
use lib.ListN.{length, get_or, length-append}
use Rattle.words.proofs.Split.{by_le}
use Rattle.pen.specs.declared.Pen.{Pen}
use Rattle.pen.specs.Lines.{Fits, moved_by, Lined, Past}
use Rattle.pen.specs.Added.{Penned, On, Full, Added, LinedIf}
use Rattle.pen.proofs.Grown.{Grows, one_more, piece_fits}
use Rattle.pen.proofs.Past.{line_stayed, has_room, no_room, past_none, past_fits, Grown}

-- a pen is not Full
never_full : {C : Type 0} {q : Pen} → On q ≡ Full → C
never_full e = let y : ◌≡◌ {A = ℕ} 0 1 = cc e in absurd (omega arith)

-- ---- the two answers

-- they stand there
pub added_on : {bs old now : List ℕ} {p q : Pen} → Past bs old now p q → Added bs old now p (On q)
added_on {bs} {old} {now} {p} {q} h = record {
  long = h.long;
  on = λ z e. let f : q ≡ z = cc e in subst (λ (y : Pen). Past bs old now p y) f h;
  full = λ e. never_full e;
}

-- they do not fit
pub added_none : {bs old now : List ℕ} {p : Pen} → length now ≡ length old → p.room < length bs → Added bs old now p Full
added_none l h = record { long = l; on = λ q e. never_full (sym e); full = λ e. h }

-- ---- two pieces

-- one behind the other
past_then : {bs cs old mid now : List ℕ} {p q r : Pen} → Past bs old mid p q → Past cs mid now q r → Past (bs ++ cs) old now p r
past_then h g = record {
  fits = g.fits;
  long = g.long ∙ h.long;
  place = rw length-append (omega (arith, h.place, g.place));
  front = g.front ∙ rw (h.front, append_assoc);
}

module _ {bs old mid : List ℕ} {p : Pen} {r : Penned} (w : Added bs old mid p r) where
  -- nothing more fits
  pub added_stop : (cs : List ℕ) → r ≡ Full → Added (bs ++ cs) old mid p Full
  added_stop cs e = added_none w.long (rw length-append (omega (arith, w.full e)))

  -- a piece more behind it
  pub added_then : Fits p old → {q : Pen} → r ≡ On q → {cs now : List ℕ} {s : Penned} → Added cs mid now q s → Added (bs ++ cs) old now p s
  added_then f {q} e v =
      let h = w.on q e in
      record {
        long = v.long ∙ w.long;
        on = λ z g. past_then h (v.on z g);
        full = λ g. rw length-append (omega (arith, f, h.fits, h.long, h.place, v.full g));
      }

  -- the pen behind it has its place and its room in the text
  pub added_fits : {q : Pen} → r ≡ On q → Fits q mid
  added_fits {q} e = (w.on q e).fits

-- ---- a line if it fits

-- the two ways of a pen behind a line
module _ {bs old now : List ℕ} {p q : Pen} (w : Lined bs old now p q) where
  -- it has moved
  pub if_moved : (q.place ≡ p.place → ⊥) → LinedIf bs old now p (On q)
  if_moved m = record { pen = rw (le-leb (length bs) p.room (has_room w m)) (ap On w.pen); text = w.text }

  -- it has not
  pub if_stayed : 0 < length bs → q.place ≡ p.place → LinedIf bs old now p Full
  if_stayed s e = record { pen = rw (lt-leb (length bs) p.room (no_room w s e)); text = w.text }

-- either way it is written behind the pen, or does not fit
pub line_added : {bs old now : List ℕ} {p : Pen} {r : Penned} → Fits p old → LinedIf bs old now p r → Added bs old now p r
line_added {bs} {old} {now} {p} {r} f w =
    let line : Lined bs old now p (moved_by p (length bs)) = record { pen = refl; text = w.text } in
    by_le (length bs) p.room
    (λ l. let e : r ≡ On (moved_by p (length bs)) = w.pen ∙ rw (le-leb (length bs) p.room l) in
    subst (λ z. Added bs old now p z) (sym e) (added_on (past_fits f (past_none f) line l)))
    (λ l. let e : r ≡ Full = w.pen ∙ rw (lt-leb (length bs) p.room l) in
    subst (λ z. Added bs old now p z) (sym e) (added_none (ap (λ (text : List ℕ). length text) (line_stayed line l).1) l))

-- a line more behind what stands there
pub added_line : {bs old mid : List ℕ} {p : Pen} {r : Penned} → Added bs old mid p r → Fits p old → {q : Pen} → r ≡ On q → {cs now : List ℕ} {s : Penned} → LinedIf cs mid now q s → Added (bs ++ cs) old now p s
added_line w f e v = added_then w f e (line_added (added_fits w e) v)

-- ---- a line for each element of a list

module _ {A : Type 0} {T : List A → List ℕ} {piece : ℕ → A → List ℕ} (G : Grows T piece) (d : A) {xs : List A} {old mid : List ℕ} {p q : Pen} {i : ℕ} (f : Fits p old) (g : Grown T xs old mid p q i) (h : i < length xs) {now : List ℕ} {r : Penned} (w : Added (piece i (get_or xs i d)) mid now q r) where
  -- one more
  pub grown_next : {z : Pen} → r ≡ On z → Grown T xs old now p z (i + 1)
  grown_next {z} e = record { within = omega arith; past = rw (one_more G xs i d h) (past_then g.past (w.on z e)) }

  -- no room for it
  pub grown_full : r ≡ Full → Added (T xs) old now p Full
  grown_full e = added_none (w.long ∙ g.past.long) (omega (arith, f, g.past.fits, g.past.long, g.past.place, w.full e, piece_fits G xs i d h))
