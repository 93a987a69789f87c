-- A code that is refused with 10 or 11: the contexts before it and the codes before it in its own.
use mathlib.Core.Path.{◌≡◌, sym, ap, ◌∙◌}
use mathlib.Core.List.{List, [], ◌∷◌, ◌++◌, append_assoc}
use Prim.Native.Nat.{ℕ, zero, suc, ◌+◌, ◌≤◌, ◌<◌}
use native.Mathlib.Omega.{arith}
use lib.ListN.{length, length-append}
use Rattle.site.specs.Tables.{all_codes}
use Rattle.sheet.specs.Read.{value, refused}
use Rattle.sheet.specs.Number.{digits_in}
use Rattle.sheet.specs.Text.{c_key, codes_text, line_text, lines_text}
use Rattle.sheet.specs.Reading.{behind, room_after, context_of, Line, line, lines_of}
use Rattle.sheet.specs.Fits.{SiteWords}
use Rattle.words.specs.Words.{Words16}
use Rattle.sheet.specs.Meaning.{spaced}
use Rattle.sheet.proofs.Refusal.{then_refused}
use Rattle.sheet.proofs.Lines.{no_value}
use Rattle.sheet.proofs.WritesBack.{rejoined, behind_read, line_written, context_written}
use Rattle.sheet.proofs.Accepted.{context_fit}
use Rattle.sheet.proofs.FirstLine.{nothing_nine}
use Rattle.sheet.proofs.Over.{Over, CodeOver, context_over, behind_over, line_over}

-- the contexts before the number, the codes before it in its own, and the rest of the lines from it on
pub record LinesOver (most owed used n at p : ℕ) (t : List ℕ) : Type 0 where
  pub site : List (List ℕ)
  pub cs : List ℕ
  pub rest : List ℕ
  pub whole : t ≡ lines_text site ++ (c_key ++ (spaced cs ++ rest))
  pub place : p ≡ at + length (lines_text site) + 2 + length (spaced cs)
  pub more : length site < owed
  pub site_words : SiteWords site
  pub words : Words16 cs
  pub fits : used + length (all_codes site) + length cs ≤ most
  pub over : Over (room_after most (used + length (all_codes site) + length cs)) n (digits_in rest)

lines_here : {most owed used n at p : ℕ} (l : List ℕ) (t : List ℕ) → ((r : List ℕ) → digits_in (r ++ t) ≡ digits_in r) → CodeOver most used n (at + 2) p l → LinesOver most (suc owed) used n at p ((c_key ++ l) ++ t)
unfolding lines_text all_codes
lines_here {used = used} l t d o =
    let q : used + length o.cs ≡ used + 0 + length o.cs = omega arith in
    record { site = []; cs = o.cs; rest = o.rest ++ t; whole = rw (o.whole, append_assoc); place = omega (arith, o.place); more = omega arith; site_words = tt; words = o.words; fits = omega (arith, o.fits); over = rw (d o.rest, ← q) o.over }

lines_next : {most owed used n at p q : ℕ} (c t : List ℕ) → Words16 c → q ≡ at + length (c_key ++ codes_text c) + 1 → LinesOver most owed (used + length c) n q p t → LinesOver most (suc owed) used n at p ((c_key ++ codes_text c) ++ 10 ∷ t)
unfolding lines_text all_codes line_text
lines_next {used = used} c t v z o =
    let l = c_key ++ codes_text c in
    let x = c_key ++ (spaced o.cs ++ o.rest) in
    let n = length-append (l ++ (10 ∷ [])) (lines_text o.site) in
    let m = length-append l (10 ∷ []) in
    let a = length-append c (all_codes o.site) in
    let u : used + length c + length (all_codes o.site) + length o.cs ≡ used + length (c ++ all_codes o.site) + length o.cs = omega arith in
    record {
      site = c ∷ o.site;
      cs = o.cs;
      rest = o.rest;
      whole = rw o.whole (sym (append_assoc (l ++ (10 ∷ [])) (lines_text o.site) x ∙ append_assoc l (10 ∷ []) (lines_text o.site ++ x)));
      place = omega (arith, o.place, n, m);
      more = omega (arith, o.more);
      site_words = (v, o.site_words);
      words = o.words;
      fits = omega (arith, o.fits, a);
      over = rw (← u) o.over;
    }

-- a line of codes that was read
codes_line : (most used at : ℕ) (ls : List (List ℕ)) {x : Line (List ℕ)} → used ≤ most → line (behind c_key (context_of most used)) at ls ≡ value x
    → (rejoined 10 ls ≡ (c_key ++ codes_text x.got) ++ 10 ∷ rejoined 10 x.lines) × (x.next ≡ at + length (c_key ++ codes_text x.got) + 1) × Words16 x.got × (used + length x.got ≤ most)
codes_line most used at ls {x} k f =
    let a = line_written (behind c_key (context_of most used)) at ls f in
    let b = behind_read c_key (context_of most used) at a.0 a.1 in
    let w : a.0 ≡ c_key ++ codes_text x.got = b.2 ∙ ap (λ (l : List ℕ). c_key ++ l) (context_written most used b.0 b.1 b.3) in
    let c = context_fit most used b.0 b.1 k b.3 in
    (a.2 ∙ ap (λ (l : List ℕ). l ++ 10 ∷ rejoined 10 x.lines) w, a.3 ∙ ap (λ (l : List ℕ). at + length l + 1) w, c.0, c.1)

-- one that is refused
codes_line_over : (most owed used at : ℕ) (ls : List (List ℕ)) {m p : ℕ} → used ≤ most → (m ≡ 9 → ⊥) → line (behind c_key (context_of most used)) at ls ≡ refused m p → LinesOver most (suc owed) used m at p (rejoined 10 ls)
codes_line_over most owed used at ls k h f =
    let a = line_over (behind c_key (context_of most used)) at ls f h in
    let b = behind_over c_key (context_of most used) at a.0 a.4 h in
    rw (a.2, b.1) (lines_here b.0 a.1 a.3 (context_over most used (at + 2) b.0 b.2 h k))

pub lines_over : (most n used at : ℕ) (ls : List (List ℕ)) {m p : ℕ} → lines_of most n used at ls ≡ refused m p → (m ≡ 9 → ⊥) → used ≤ most → LinesOver most n used m at p (rejoined 10 ls)
unfolding lines_of
lines_over most zero used at ls e h k = absurd (h (nothing_nine at ls e).0)
lines_over most (suc n) used at ls e h k =
    then_refused (line (behind c_key (context_of most used)) at ls) _ e
    (codes_line_over most n used at ls k h)
    (λ x f g. then_refused (lines_of most n (used + length x.got) x.next x.lines) _ g
    (λ r. let a = codes_line most used at ls k f in
    rw a.0 (lines_next x.got (rejoined 10 x.lines) a.2 a.1 (lines_over most n (used + length x.got) x.next x.lines r h a.3)))
    (λ c r z. no_value (sym z)))
