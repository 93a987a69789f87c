-- The walk down the `c=` lines: the contexts done stand in the tables, and the rest is still to be read.
-- Each line's reading is a refusal, or one context more; behind the last line nothing may stand.
use mathlib.Core.Path.{◌≡◌, refl, sym, ap, ◌∙◌}
use mathlib.Core.List.{List, [], ◌∷◌, ◌++◌, append-nil}
use Prim.Native.Nat.{ℕ, suc, ◌+◌, ◌-◌, ◌≤◌, ◌<◌, min, zero-le}
use native.Mathlib.Numerals.{add-one}
use native.Mathlib.Omega.{arith}
use lib.ListN.{length, take, drop, set, length-append, length-set, length-drop}
use lib.Seq.{take-suc-set}
use Rattle.sheet.specs.Read.{Read, value, refused}
use Rattle.sheet.specs.Pieces.{split}
use Rattle.sheet.specs.Reading.{Line, lines_of}
use Rattle.site.specs.Tables.{offsets_from, offsets_of, all_codes}
use Rattle.sheet.proofs.Lines.{no_value, nothing_none, nothing_more}
use Rattle.sheet.proofs.Tables.{all_snoc, offsets_snoc}
use Rattle.reader.specs.Part.{Part}
use Rattle.reader.specs.Part as part
use Rattle.reader.specs.Parts.{part_by, line_by, codes_after, line_at, context_in, context_line, lines_from}
use Rattle.reader.specs.Fronts.{Stored, Held}
use Rattle.reader.proofs.Enums.{line_value, line_refused, after, after_cons, after_none}
use Rattle.reader.proofs.Ends.{Placed, line_placed}

-- nothing is said of the tables after a refusal
held_refused : {x : Read (List (List ℕ))} (end : ℕ) {offsets codes : List ℕ} {n p : ℕ} → x ≡ refused n p → Held x end offsets codes (part.Refused n p)
unfolding part_by
held_refused end e = record { answer = rw e; contexts = λ s f. no_value (sym e ∙ f); codes_front = λ s f. no_value (sym e ∙ f) }

-- i contexts of n are done, with `used` codes, and the rest stands from the place `from` on
pub record LinesDone (sheet offsets₀ offsets codes₀ codes : List ℕ) (at n from used i : ℕ) : Type 0 where
  pub done : List (List ℕ)
  pub some : i ≡ length done
  pub few : i ≤ n
  pub within : from ≤ length sheet
  pub count : used ≡ length (all_codes done)
  pub room : used ≤ min 4096 (length codes₀)
  pub limit : n < min 257 (length offsets₀)
  pub offsets_long : length offsets ≡ length offsets₀
  pub codes_long : length codes ≡ length codes₀
  pub offsets_front : take (i + 1) offsets ≡ offsets_of done
  pub codes_front : take used codes ≡ all_codes done
  pub same : lines_from (length codes₀) n at sheet ≡ after done (lines_of (min 4096 (length codes₀)) (n - i) used from (split 10 (drop from sheet)))

-- no line has been read; the first offset is 0
pub lined_start : (sheet offsets codes : List ℕ) (at n : ℕ) → at ≤ length sheet → n < min 257 (length offsets)
    → LinesDone sheet (set offsets 0 0) (set offsets 0 0) codes codes at n at 0 0
unfolding offsets_from all_codes
lined_start sheet offsets codes at n h room =
    record {
      done = [];
      some = refl;
      few = zero-le;
      within = h;
      count = refl;
      room = zero-le;
      offsets_long = refl;
      limit = simp length-set room;
      codes_long = refl;
      offsets_front = take-suc-set offsets 0 0 (omega arith);
      codes_front = refl;
      same = let z : n - 0 ≡ n = omega arith in sym (after_none _ ∙ rw z);
    }

module _ {sheet offsets₀ offsets codes₀ codes : List ℕ} {at n from used i : ℕ}
    (W : LinesDone sheet offsets₀ offsets codes₀ codes at n from used i) where
  -- r is the reading of the line at `from`, which left the codes `left`
  module _ (turn : i < n) {left : List ℕ} {r : Part}
      (a : (r ≡ line_by (codes_after used) (context_line (length codes) used from sheet))
      × Stored (context_in (length codes) used from (line_at from sheet)) used codes left) where
    -- the reading, by the codes as they were lent
    is_read : line_by (codes_after used) (context_line (length codes₀) used from sheet) ≡ r
    is_read = sym (a.0 ∙ rw W.codes_long)

    -- a line is still owed
    one_left : n - i ≡ suc (n - (i + 1))
    one_left = omega arith

    -- a refusal is that of all lines
    pub lined_refused : {c p : ℕ} → r ≡ part.Refused c p → {offs : List ℕ} → Held (lines_from (length codes₀) n at sheet) (length sheet) offs left r
    unfolding lines_of after
    lined_refused e = rw e (held_refused (length sheet) (W.same ∙ rw (one_left, line_refused (codes_after used) _ (is_read ∙ e))))

    module _ {v m : ℕ} (e : r ≡ part.Read v m) where
      -- one context more
      one_read : (l : Line (List ℕ)) × (context_line (length codes₀) used from sheet ≡ value l) × (v ≡ used + length l.got) × (m ≡ l.next)
      one_read = line_value (codes_after used) _ (is_read ∙ e)

      -- its line has its place
      placed : Placed (context_in (length codes₀) used) sheet from one_read.0
      placed = line_placed _ sheet from W.within one_read.1

      -- the same of the codes as they were lent
      as_stored : context_in (length codes) used from (line_at from sheet) ≡ value one_read.0.got
      as_stored = rw W.codes_long placed.text

      -- its codes have room
      fits : v ≤ min 4096 (length codes₀)
      fits = omega (arith, one_read.2, a.1.room _ as_stored, W.codes_long)

      -- it stands in the tables behind those done
      pub lined_next : length left ≡ length codes → LinesDone sheet offsets₀ (set offsets (i + 1) v) codes₀ left at n m v (i + 1)
      unfolding lines_of
      lined_next long =
          let cs = one_read.0.got in
          let room : i + 1 < length offsets = omega (arith, W.limit, W.offsets_long) in
          let u : 0 + length (all_codes W.done) + length cs ≡ v = omega (arith, one_read.2, W.count) in
          record {
            done = W.done ++ (cs ∷ []);
            some = rw length-append (omega (arith, W.some));
            few = omega arith;
            within = rw one_read.3 placed.within;
            count = rw (all_snoc W.done cs, length-append) (omega (arith, one_read.2, W.count));
            room = fits;
            limit = W.limit;
            offsets_long = simp length-set W.offsets_long;
            codes_long = long ∙ W.codes_long;
            offsets_front = rw (add-one (i + 1), take-suc-set offsets (i + 1) v room, W.offsets_front, offsets_snoc 0 W.done cs, u);
            codes_front = ap (λ (k : ℕ). take k left) one_read.2 ∙ a.1.front cs as_stored ∙ rw (all_snoc W.done cs, W.codes_front);
            same = W.same ∙ rw (one_left, one_read.1, placed.rest, ← one_read.2, ← one_read.3) (after_cons W.done cs _);
          }

  module _ (all : n ≤ i) where
    -- no line is owed
    none_left : n - i ≡ 0
    none_left = omega arith

    -- 9 where something stands behind the last line
    pub lined_more : from < length sheet → Held (lines_from (length codes₀) n at sheet) (length sheet) offsets codes (part.Refused 9 from)
    unfolding lines_of after
    lined_more h = held_refused (length sheet) (W.same ∙ rw (none_left, nothing_more from (drop from sheet) (simp length-drop (omega arith))))

    -- all is read where nothing does
    pub lined_end : length sheet ≤ from → Held (lines_from (length codes₀) n at sheet) (length sheet) offsets codes (part.Read used from)
    unfolding lines_of after part_by
    lined_end h =
        let none = nothing_none from (drop from sheet) (simp length-drop (omega arith)) in
        let x : lines_from (length codes₀) n at sheet ≡ value W.done = W.same ∙ rw (none_left, none, append-nil) in
        let e : from ≡ length sheet = omega (arith, W.within) in
        record {
          answer = rw (x, ← W.count, e);
          contexts = λ s f. let g : W.done ≡ s = cc in rw (← g, ← W.some) W.offsets_front;
          codes_front = λ s f. let g : W.done ≡ s = cc in rw (← g, ← W.count) W.codes_front;
        }
