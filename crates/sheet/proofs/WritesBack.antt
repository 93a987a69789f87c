-- What is read is written back: a sheet that is read is the text of what was read.
use mathlib.Core.Path.{◌≡◌, refl, sym, ap, ap₂, ◌∙◌}
use mathlib.Core.List.{List, [], ◌∷◌, ◌++◌, map, append_assoc}
use Prim.Native.Nat.{ℕ, zero, suc, ◌+◌, min}
use borrow.Author.Tests.{eq-eqb, ne_eqb}
use lib.ListN.{length}
use Rattle.words.proofs.Split.{by_eq}
use Rattle.sheet.specs.Read.{Read, value}
use Rattle.sheet.specs.Number.{digits_of, number_of}
use Rattle.sheet.specs.Pieces.{split, on_first}
use Rattle.sheet.specs.Text.{k_key, contexts_key, c_key, codes_text, line_text, lines_text, number_text, sheet_text}
use Rattle.sheet.specs.Reading.{behind, room_after, codes_read, context_of, Line, line, nothing, lines_of, Sheet, read_sheet}
use Rattle.sheet.proofs.Pieces.{split_some}
use Rattle.sheet.proofs.Lines.{no_value, then_value, lines_count}
use Rattle.sheet.proofs.Numerals.{number_read}

-- pieces with b between
unfoldable pub rejoined : ℕ → List (List ℕ) → List ℕ
rejoined b [] = []
rejoined b (p ∷ []) = p
rejoined b (p ∷ q ∷ ps) = p ++ b ∷ rejoined b (q ∷ ps)

join_first : (b x : ℕ) (ps : List (List ℕ)) → rejoined b (on_first x ps) ≡ x ∷ rejoined b ps
unfolding rejoined on_first
join_first b x [] = refl
join_first b x (p ∷ []) = refl
join_first b x (p ∷ q ∷ ps) = refl

-- a cut text, put together, is the text
pub split_join : (b : ℕ) (s : List ℕ) → rejoined b (split b s) ≡ s
unfolding rejoined split
split_join b [] = refl
split_join b (x ∷ s) =
    by_eq x b
    (λ e. let m = split_some b s in rw (eq-eqb x b e, m.2) (let h : rejoined b (m.0 ∷ m.1) ≡ s = rw m.2 at (split_join b s) in rw (h, e)))
    (λ n. rw (ne_eqb x b n, join_first b x (split b s), split_join b s))

codes_written : (most used at : ℕ) (ws : List (List ℕ)) {cs : List ℕ} → codes_read most used at ws ≡ value cs → ws ≡ map digits_of cs
unfolding codes_read
codes_written most used at [] {cs} e = let f : [] ≡ cs = cc in rw (← f)
codes_written most used at (w ∷ ws) {cs} e =
    let a = then_value (number_of (room_after most used) at w) _ e in
    let b = then_value (codes_read most (suc used) (at + length w + 1) ws) _ a.2 in
    let f : a.0 ∷ b.0 ≡ cs = cc b.2 in
    rw (← f) (ap₂ ◌∷◌ (number_read _ at w a.1) (codes_written most (suc used) (at + length w + 1) ws b.1))

join_digits : (cs : List ℕ) → rejoined 32 (map digits_of cs) ≡ codes_text cs
unfolding rejoined codes_text
join_digits [] = refl
join_digits (n ∷ []) = refl
join_digits (n ∷ m ∷ ns) = ap (λ (l : List ℕ). digits_of n ++ 32 ∷ l) (join_digits (m ∷ ns))

pub context_written : (most used at : ℕ) (l : List ℕ) {cs : List ℕ} → context_of most used at l ≡ value cs → l ≡ codes_text cs
unfolding context_of codes_text
context_written most used at [] {cs} e = let f : [] ≡ cs = cc in rw (← f)
context_written most used at (b ∷ l) {cs} e = sym (split_join 32 (b ∷ l)) ∙ ap (rejoined 32) (codes_written most used at (split 32 (b ∷ l)) e) ∙ join_digits cs

pub behind_read : {A : Type 0} (key : List ℕ) (read : ℕ → List ℕ → Read A) (at : ℕ) (l : List ℕ) {v : A} → behind key read at l ≡ value v
    → (p : ℕ) × (m : List ℕ) × (l ≡ key ++ m) × (read p m ≡ value v)
unfolding behind
behind_read [] read at l e = (at, l, refl, e)
behind_read (x ∷ key) read at [] e = no_value e
behind_read (x ∷ key) read at (b ∷ l) e =
    by_eq b x
    (λ q. let r = behind_read key read (suc at) l (rw (eq-eqb b x q) at e) in (r.0, r.1, ap₂ ◌∷◌ q r.2, r.3))
    (λ n. no_value (rw (ne_eqb b x n) at e))

-- a line that was read, and what is behind it
pub line_written : {A : Type 0} (read : ℕ → List ℕ → Read A) (at : ℕ) (ls : List (List ℕ)) {x : Line A} → line read at ls ≡ value x
    → (l : List ℕ) × (read at l ≡ value x.got) × (rejoined 10 ls ≡ l ++ 10 ∷ rejoined 10 x.lines) × (x.next ≡ at + length l + 1)
unfolding line rejoined
line_written read at [] e = no_value e
line_written read at (l ∷ []) e = no_value (then_value (read at l) _ e).2
line_written {A} read at (l ∷ m ∷ more) {x} e =
    let r = then_value (read at l) _ e in
    let q : ◌≡◌ {A = Line A} (record { got = r.0; next = at + length l + 1; lines = m ∷ more }) x = cc r.2 in
    (l, r.1 ∙ ap (λ (y : Line A). value y.got) q, ap (λ (y : Line A). l ++ 10 ∷ rejoined 10 y.lines) q, ap (λ (y : Line A). y.next) (sym q))

nothing_written : (at : ℕ) (ls : List (List ℕ)) {site : List (List ℕ)} → nothing at ls ≡ value site → rejoined 10 ls ≡ lines_text site
unfolding nothing rejoined lines_text
nothing_written at [] e = no_value e
nothing_written at ([] ∷ []) {site} e = let f : [] ≡ site = cc in rw (← f)
nothing_written at ([] ∷ m ∷ more) e = no_value e
nothing_written at ((b ∷ l) ∷ more) e = no_value e

lines_written : (most n used at : ℕ) (ls : List (List ℕ)) {site : List (List ℕ)} → lines_of most n used at ls ≡ value site → rejoined 10 ls ≡ lines_text site
unfolding lines_of lines_text line_text
lines_written most zero used at ls e = nothing_written at ls e
lines_written most (suc n) used at ls {site} e =
    let c = then_value (line (behind c_key (context_of most used)) at ls) _ e in
    let r = then_value (lines_of most n (used + length c.0.got) c.0.next c.0.lines) _ c.2 in
    let s : c.0.got ∷ r.0 ≡ site = cc r.2 in
    let w = line_written (behind c_key (context_of most used)) at ls c.1 in
    let k = behind_read c_key (context_of most used) at w.0 w.1 in
    let t = context_written most used k.0 k.1 k.3 in
    rw (← s) (w.2 ∙ rw (k.2, t, lines_written most n _ _ _ r.1, append_assoc))

pub number_written : (key : List ℕ) (room at : ℕ) (ls : List (List ℕ)) {x : Line ℕ} → line (behind key (number_of room)) at ls ≡ value x → rejoined 10 ls ≡ number_text key x.got ++ rejoined 10 x.lines
unfolding line_text codes_text
number_written key room at ls e =
    let w = line_written (behind key (number_of room)) at ls e in
    let k = behind_read key (number_of room) at w.0 w.1 in
    w.2 ∙ rw (k.2, number_read room k.0 k.1 k.3) (simp append_assoc)

together : (s : List ℕ) (a b : Line ℕ) (site : List (List ℕ)) → length site ≡ b.got → rejoined 10 (split 10 s) ≡ number_text k_key a.got ++ rejoined 10 a.lines
    → rejoined 10 a.lines ≡ number_text contexts_key b.got ++ rejoined 10 b.lines → rejoined 10 b.lines ≡ lines_text site → sheet_text a.got site ≡ s
unfolding sheet_text
together s a b site n f g h = sym (sym (split_join 10 s) ∙ f ∙ rw (g, h, ← n, append_assoc))

pub writes_back : (offsets codes : ℕ) (s : List ℕ) {x : Sheet} → read_sheet offsets codes s ≡ value x → sheet_text x.k x.site ≡ s
unfolding read_sheet sheet_text
writes_back offsets codes s {x} e =
    let a = then_value (line (behind k_key (number_of 65536)) 0 (split 10 s)) _ e in
    let b = then_value (line (behind contexts_key (number_of (min 257 offsets))) a.0.next a.0.lines) _ a.2 in
    let c = then_value (lines_of (min 4096 codes) b.0.got 0 b.0.next b.0.lines) _ b.2 in
    let q : ◌≡◌ {A = Sheet} (record { k = a.0.got; site = c.0 }) x = cc c.2 in
    let n = lines_count (min 4096 codes) b.0.got 0 b.0.next b.0.lines c.1 in
    let t = together s a.0 b.0 c.0 n (number_written k_key 65536 0 (split 10 s) a.1) (number_written contexts_key (min 257 offsets) a.0.next a.0.lines b.1) (lines_written (min 4096 codes) b.0.got 0 b.0.next b.0.lines c.1) in
    ap (λ (y : Sheet). sheet_text y.k y.site) (sym q) ∙ t
