-- Accepted sheets are exactly the texts that fit; a sheet that is refused with 9 is no well-formed sheet.
use mathlib.Core.Path.{◌≡◌, sym, subst}
use mathlib.Core.List.{List, [], ◌∷◌}
use Prim.Native.Nat.{ℕ, zero, suc, ◌+◌, ◌≤◌, min, zero-le}
use native.Mathlib.Omega.{arith}
use lib.ListN.{length, length-append}
use Rattle.sheet.specs.Read.{value, refused}
use Rattle.sheet.specs.Number.{number_of}
use Rattle.sheet.specs.Pieces.{split}
use Rattle.sheet.specs.Text.{k_key, contexts_key, c_key, sheet_text}
use Rattle.sheet.specs.Reading.{behind, room_after, codes_read, context_of, Line, line, lines_of, Sheet, read_sheet}
use Rattle.site.specs.Tables.{all_codes}
use Rattle.sheet.proofs.Lines.{ReadSmall, then_value, number_small, behind_small, room_left, nothing_read, lines_count}
use Rattle.sheet.proofs.ReadsBack.{SiteWords, SheetFits, reads_back}
use Rattle.words.specs.Words.{Words16}
use Rattle.sheet.proofs.WritesBack.{behind_read, line_written, writes_back}
use Rattle.sheet.proofs.Nine.{text_judged, never_nine}

codes_fit : (most used at : ℕ) (ws : List (List ℕ)) {cs : List ℕ} → used ≤ most → codes_read most used at ws ≡ value cs → Words16 cs × (used + length cs ≤ most)
unfolding codes_read
codes_fit most used at [] {cs} h e = let f : [] ≡ cs = cc in rw (← f) (tt, omega arith)
codes_fit most used at (w ∷ ws) {cs} h e =
    let a = then_value (number_of (room_after most used) at w) _ e in
    let b = then_value (codes_read most (suc used) (at + length w + 1) ws) _ a.2 in
    let f : a.0 ∷ b.0 ≡ cs = cc b.2 in
    let s = number_small _ at w a.1 in
    let r = codes_fit most (suc used) (at + length w + 1) ws (room_left most used _ s.fits) b.1 in
    rw (← f) ((s.few, r.0), omega (arith, r.1))

pub context_fit : (most used at : ℕ) (l : List ℕ) {cs : List ℕ} → used ≤ most → context_of most used at l ≡ value cs → Words16 cs × (used + length cs ≤ most)
unfolding context_of
context_fit most used at [] {cs} h e = let f : [] ≡ cs = cc in rw (← f) (tt, omega arith)
context_fit most used at (b ∷ l) h e = codes_fit most used at (split 32 (b ∷ l)) h e

lines_fit : (most n used at : ℕ) (ls : List (List ℕ)) {site : List (List ℕ)} → used ≤ most → lines_of most n used at ls ≡ value site → SiteWords site × (used + length (all_codes site) ≤ most)
unfolding lines_of all_codes
lines_fit most zero used at ls h e = rw (nothing_read at ls e) (tt, omega arith)
lines_fit most (suc n) used at ls {site} h e =
    let c = then_value (line (behind c_key (context_of most used)) at ls) _ e in
    let r = then_value (lines_of most n (used + length c.0.got) c.0.next c.0.lines) _ c.2 in
    let s : c.0.got ∷ r.0 ≡ site = cc r.2 in
    let w = line_written (behind c_key (context_of most used)) at ls c.1 in
    let k = behind_read c_key (context_of most used) at w.0 w.1 in
    let f = context_fit most used k.0 k.1 h k.3 in
    let g = lines_fit most n (used + length c.0.got) c.0.next c.0.lines f.1 r.1 in
    rw (← s) ((f.0, g.0), rw length-append (omega (arith, g.1)))

pub number_fits : (key : List ℕ) (room at : ℕ) (ls : List (List ℕ)) {x : Line ℕ} → line (behind key (number_of room)) at ls ≡ value x → ReadSmall room x.got
number_fits key room at ls e = let w = line_written (behind key (number_of room)) at ls e in behind_small room key at w.0 w.1

pub read_fits : (offsets codes : ℕ) (s : List ℕ) {x : Sheet} → read_sheet offsets codes s ≡ value x → SheetFits offsets codes x.k x.site
unfolding read_sheet
read_fits offsets codes s {x} e =
    let a = then_value (line (behind k_key (number_of 65536)) 0 (split 10 s)) _ e in
    let b = then_value (line (behind contexts_key (number_of (min 257 offsets))) a.0.next a.0.lines) _ a.2 in
    let c = then_value (lines_of (min 4096 codes) b.0.got 0 b.0.next b.0.lines) _ b.2 in
    let q : ◌≡◌ {A = Sheet} (record { k = a.0.got; site = c.0 }) x = cc c.2 in
    let n = lines_count (min 4096 codes) b.0.got 0 b.0.next b.0.lines c.1 in
    let f = lines_fit (min 4096 codes) b.0.got 0 b.0.next b.0.lines zero-le c.1 in
    let p : SheetFits offsets codes a.0.got c.0 = record { k_word = (number_fits k_key 65536 0 (split 10 s) a.1).few; words = f.0; contexts = omega (arith, n, (number_fits contexts_key (min 257 offsets) a.0.next a.0.lines b.1).fits); room = omega (arith, f.1) } in
    subst (λ (y : Sheet). SheetFits offsets codes y.k y.site) q p

-- s is read as k and the site exactly if it is their text, and fits
pub accepted_text : (offsets codes : ℕ) (s : List ℕ) (x : Sheet) → read_sheet offsets codes s ≡ value x → (s ≡ sheet_text x.k x.site) × SheetFits offsets codes x.k x.site
accepted_text offsets codes s x e = (sym (writes_back offsets codes s e), read_fits offsets codes s e)

pub accepts : (offsets codes : ℕ) (s : List ℕ) (k : ℕ) (site : List (List ℕ)) → s ≡ sheet_text k site → SheetFits offsets codes k site → read_sheet offsets codes s ≡ value (record { k = k; site = site })
accepts offsets codes s k site e F = rw e (reads_back F)

pub nine_no_sheet : (offsets codes p : ℕ) (s : List ℕ) → read_sheet offsets codes s ≡ refused 9 p → (k : ℕ) (site : List (List ℕ)) → s ≡ sheet_text k site → ⊥
nine_no_sheet offsets codes p s e k site q = never_nine (text_judged offsets codes k site) p (rw q at e)
