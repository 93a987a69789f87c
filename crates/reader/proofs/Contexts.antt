-- A `c=` line: a broken key, an empty context, or the codes behind the key; and then the line's end.
-- Each way gives the answer and what is stored, of the same reading.
use mathlib.Core.Path.{◌≡◌, refl, ◌∙◌}
use mathlib.Core.List.{List, [], ◌∷◌, append-nil}
use Prim.Native.Nat.{ℕ, ◌+◌, ◌≤◌, ◌<◌, min}
use native.Mathlib.Nat.{add-zero}
use native.Mathlib.Omega.{arith}
use lib.ListN.{length, drop, length-drop}
use lib.Seq.{drop-length}
use Rattle.sheet.specs.Read.{value}
use Rattle.sheet.specs.Pieces.{split}
use Rattle.sheet.specs.Text.{c_key}
use Rattle.sheet.specs.Reading.{codes_read, context_of}
use Rattle.reader.specs.Part.{Part}
use Rattle.reader.specs.Part as part
use Rattle.reader.specs.Parts.{part_by, line_by, codes_after, part_ended, matched_by, line_at, words_of, context_in, context_line}
use Rattle.reader.specs.Fronts.{Stored}
use Rattle.reader.proofs.Keys.{line_broken, line_behind, tail_end}
use Rattle.reader.proofs.Ends.{line_over}
use Rattle.reader.proofs.Worded.{stored_refused}

-- behind the key something stands
context_some : (most used at : ℕ) (l : List ℕ) → 0 < length l → context_of most used at l ≡ codes_read most used at (split 32 l)
unfolding context_of
context_some most used at [] h = absurd (omega arith)
context_some most used at (b ∷ l) h = refl

-- m bytes of the key are there
module _ (l : List ℕ) (at : ℕ) {m : ℕ} (q : m ≡ matched_by c_key l) (used : ℕ) (old : List ℕ) where
  -- a broken key: 9 at its first other byte
  pub context_broken : m < 2 → {now : List ℕ}
      → (part.Refused 9 (at + m) ≡ part_by (codes_after used) (at + length l) (context_in (length old) used at l))
      × Stored (context_in (length old) used at l) used old now
  context_broken h = stored_refused (at + length l) (line_broken c_key l at q (context_of (min 4096 (length old)) used) h)

  module _ (h : 2 ≤ m) where
    -- a whole key: the context behind it
    is_behind : context_in (length old) used at l ≡ context_of (min 4096 (length old)) used (at + m) (drop m l)
    is_behind = line_behind c_key l at q (context_of (min 4096 (length old)) used) h

    -- nothing behind the key is an empty context
    pub context_empty : m ≡ length l → used ≤ min 4096 (length old)
        → (part.Read used (at + length l) ≡ part_by (codes_after used) (at + length l) (context_in (length old) used at l))
        × Stored (context_in (length old) used at l) used old old
    unfolding context_of part_by
    context_empty e fits =
        let x : context_in (length old) used at l ≡ value [] = is_behind ∙ rw (e, drop-length) in (
          rw (x, add-zero),
          record {
            room = λ cs f. let g : [] ≡ cs = cc in rw (← g, add-zero) fits;
            front = λ cs f. let g : [] ≡ cs = cc in rw (← g, add-zero, append-nil);
          },
        )

    -- what stands behind the key are codes
    pub context_codes : m ≤ length l → (m ≡ length l → ⊥)
        → {place : ℕ} {rest : List ℕ} → (place ≡ at + m) × (rest ≡ drop m l)
        → {now : List ℕ} {r : Part}
        → (r ≡ part_by (codes_after used) (place + length rest) (words_of (length old) used place rest))
        × Stored (words_of (length old) used place rest) used old now
        → (r ≡ part_by (codes_after used) (at + length l) (context_in (length old) used at l))
        × Stored (context_in (length old) used at l) used old now
    context_codes i n p s =
        let some : 0 < length (drop m l) = omega (arith, length-drop m l) in
        let x = is_behind ∙ context_some (min 4096 (length old)) used (at + m) (drop m l) some in
        (rw (x, ← tail_end c_key l at q i, ← p.0, ← p.1) s.0, rw (x, ← p.0, ← p.1) s.1)

-- r is the reading of the line's text l, with what is stored
module _ (s : List ℕ) (at used : ℕ) (old : List ℕ) (h : at ≤ length s) {l : List ℕ} (q : l ≡ line_at at s) {now : List ℕ} {r : Part}
    (a : (r ≡ part_by (codes_after used) (at + length l) (context_in (length old) used at l))
    × Stored (context_in (length old) used at l) used old now) where
  -- behind the text stands the line's end, whatever the text has for a reading
  pub context_over : {z : Part} → z ≡ part_ended (length s) r
      → (z ≡ line_by (codes_after used) (context_line (length old) used at s))
      × Stored (context_in (length old) used at (line_at at s)) used old now
  context_over g = (line_over (context_in (length old) used) s at h (codes_after used) q a.0 g, rw (← q) a.1)
