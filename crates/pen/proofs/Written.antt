-- Bytes written over a text: a piece more behind the last, a byte, digits, and the same in a lent tail.
use mathlib.Core.Path.{◌≡◌, refl, ap, ◌∙◌}
use mathlib.Core.List.{List, [], ◌∷◌, ◌++◌, append-nil, append_assoc}
use Prim.Native.Nat.{ℕ, ◌+◌, ◌-◌, ◌/◌, ◌%◌, ◌≤◌, ◌<◌}
use native.Mathlib.Nat.{add-zero}
use native.Mathlib.Numerals.{add-one}
use native.Mathlib.Omega.{arith}
use borrow.Rule.Slice.PartMut.{put_mid}
use lib.ListN.{length, set, take, drop, length-append, length-drop, take-append-drop}
use lib.Seq.{length-take-le, take_at, drop-cons, drop-drop, drop-append-add, set_at}
use Rattle.words.proofs.Tail.{tail_written}
use Rattle.sheet.specs.Number.{digits_of}
use Rattle.sheet.proofs.Digits.{digits_small, digits_more, length_more, length_one}
use Rattle.pen.specs.Pieces.{written, Wrote}

module _ (old : List ℕ) (at : ℕ) where
  -- nothing is written
  pub written_none : written old at [] ≡ old
  written_none = rw (add-zero, append-nil) (take-append-drop at old)

  module _ (bs : List ℕ) (h : at + length bs ≤ length old) where
    -- up to the end of the bytes
    pub head_long : length (take at old ++ bs) ≡ at + length bs
    head_long = rw (length-append, length-take-le at old (omega arith))

    pub written_long : length (written old at bs) ≡ length old
    written_long = rw (length-append, head_long, length-drop) (omega arith)

    pub written_front : take (at + length bs) (written old at bs) ≡ take at old ++ bs
    written_front = take_at (take at old ++ bs) _ (at + length bs) head_long

    -- a piece more behind them
    pub written_then : (cs : List ℕ) → written (written old at bs) (at + length bs) cs ≡ written old at (bs ++ cs)
    written_then cs =
        let e : at + length bs + length cs ≡ length (take at old ++ bs) + length cs = rw head_long in
        let f : at + length bs + length cs ≡ at + (length bs + length cs) = omega arith in
        let d : drop (at + length bs + length cs) (written old at bs) ≡ drop (at + length bs + length cs) old = ap (λ (n : ℕ). drop n (written old at bs)) e ∙ drop-append-add (take at old ++ bs) (drop (at + length bs) old) (length cs) ∙ drop-drop (length cs) (at + length bs) old in
        rw (written_front, d, length-append, f, append_assoc (take at old) bs cs)

-- a piece behind another
pub wrote_then : {bs cs : List ℕ} {at r s : ℕ} {old mid now : List ℕ} → at + length bs ≤ length old → Wrote bs at old mid r → Wrote cs r mid now s → Wrote (bs ++ cs) at old now s
wrote_then {bs} {cs} {at} {r} {s} {old} h v w = record { end = w.end ∙ rw (v.end, length-append) (omega arith); text = w.text ∙ rw (v.text, v.end, written_then old at bs h cs) }

-- what `write_digits` leaves: of a digit
pub one_written : (n : ℕ) (text : List ℕ) → n < 10 → length (digits_of n) ≤ length text
    → (1 ≡ length (digits_of n)) × (set text 0 (48 + n) ≡ digits_of n ++ drop (length (digits_of n)) text)
one_written n text h room = rw (digits_small n h) (refl, first text (rw (digits_small n h) at room))
  where
    first : (text : List ℕ) → 1 ≤ length text → set text 0 (48 + n) ≡ (48 + n) ∷ drop 1 text
    first [] l = absurd (omega arith)
    first (x ∷ xs) l = refl

-- and of a further digit behind those of n / 10
pub more_written : (n r : ℕ) (text mid : List ℕ) → 10 ≤ n → length (digits_of n) ≤ length text
    → r ≡ length (digits_of (n / 10)) → mid ≡ digits_of (n / 10) ++ drop (length (digits_of (n / 10))) text
    → (r + 1 ≡ length (digits_of n)) × (set mid r (48 + n % 10) ≡ digits_of n ++ drop (length (digits_of n)) text)
more_written n r text mid h room e m =
    let s = length_more n h in
    let d = digits_of (n / 10) in (
      omega arith,
      rw (m, e, s, drop-cons text (length d) 0 (omega arith), set_at d _ _ (48 + n % 10) (length d) refl, digits_more n h, append_assoc, add-one),
    )

-- the ways of `write_digits`
pub ruleset writing = (length_more, length_one, one_written, more_written)

-- what is written at the front of the lent tail is written at its start in the whole
module _ (old : List ℕ) (at : ℕ) where
  pub tail_wrote : (bs : List ℕ) {part : List ℕ} {w : ℕ} → w ≡ length bs → part ≡ bs ++ drop (length bs) (take (length old - at) (drop at old)) → Wrote bs at old (put_mid at (length old - at) old part) (at + w)
  tail_wrote bs e f = record { end = rw e; text = tail_written old _ bs at f }
