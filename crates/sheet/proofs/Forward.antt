-- The other way: behind numbers in range, a number over what can be there is refused at its first digit, whatever follows it.
use mathlib.Core.Path.{◌≡◌, sym, ap, ◌∙◌}
use mathlib.Core.List.{List, [], ◌∷◌, ◌++◌, append_assoc}
use Prim.Native.Nat.{ℕ, zero, suc, ◌+◌, ◌≤◌, ◌<◌}
use native.Mathlib.Nat.{add-zero}
use native.Mathlib.Omega.{arith}
use borrow.Author.Tests.{ne_eqb, lt-ltb, le-ltb}
use lib.ListN.{length, length-append}
use Rattle.site.specs.Tables.{all_codes}
use Rattle.sheet.specs.Read.{refused}
use Rattle.sheet.specs.Number.{digits_of, digits_in, number_of}
use Rattle.sheet.specs.Pieces.{split, on_first}
use Rattle.sheet.specs.Text.{c_key, codes_text, line_text, lines_text}
use Rattle.sheet.specs.Reading.{behind, room_after, codes_read, context_of, line, lines_of}
use Rattle.sheet.specs.Fits.{SiteWords}
use Rattle.words.specs.Words.{Words16}
use Rattle.sheet.specs.Meaning.{spaced}
use Rattle.sheet.proofs.Numbers.{in_within}
use Rattle.sheet.proofs.Numerals.{number_digits}
use Rattle.sheet.proofs.Pieces.{split_some}
use Rattle.sheet.proofs.ReadsBack.{Free, free_append, digits_free, codes_free, split_cut, cut_line, behind_key, line_first, context_some, context_read}
use Rattle.sheet.proofs.WritesBack.{rejoined, split_join}
use Rattle.sheet.proofs.FirstLine.{line_no}
use Rattle.sheet.proofs.Over.{Over, above, no_room, joined_ends}

number_refuses : (room at : ℕ) {n : ℕ} (w : List ℕ) → Over room n (digits_in w) → number_of room at w ≡ refused n at
unfolding number_of
number_refuses room at w (above q d a) = rw (ne_eqb (length (digits_in w)) 0 (λ z. omega arith), lt-ltb 65535 _ a, q)
number_refuses room at w (no_room q d s r) = rw (ne_eqb (length (digits_in w)) 0 (λ z. omega arith), le-ltb 65535 _ s, le-ltb _ room r, q)

over_digits : {room n : ℕ} {ds : List ℕ} → Over room n ds → 0 < length ds
over_digits (above q d a) = d
over_digits (no_room q d s r) = d

-- the first piece of a text has its first digits
first_digits : (b : ℕ) (t w : List ℕ) (ws : List (List ℕ)) → b < 48 → split b t ≡ w ∷ ws → digits_in t ≡ digits_in w
first_digits b t w ws h e = let j = joined_ends b w ws h in ap digits_in (sym (split_join b t) ∙ ap (rejoined b) e ∙ j.1) ∙ j.2 w

split_before : (b : ℕ) (x t w : List ℕ) (ws : List (List ℕ)) → Free b x → split b t ≡ w ∷ ws → split b (x ++ t) ≡ (x ++ w) ∷ ws
unfolding split on_first
split_before b [] t w ws f e = e
split_before b (y ∷ x) t w ws f e = rw (ne_eqb y b f.0, split_before b x t w ws f.1 e)

spaced_free : (cs : List ℕ) → Free 10 (spaced cs)
unfolding spaced
spaced_free [] = tt
spaced_free (n ∷ ns) = free_append 10 (digits_of n) (32 ∷ spaced ns) (digits_free 10 n (omega arith)) (λ e. omega arith, spaced_free ns)

codes_refuse : (most used at : ℕ) {n : ℕ} (cs r : List ℕ) → Words16 cs → used + length cs ≤ most → Over (room_after most (used + length cs)) n (digits_in r)
    → codes_read most used at (split 32 (spaced cs ++ r)) ≡ refused n (at + length (spaced cs))
unfolding codes_read spaced
codes_refuse most used at [] r w h o =
    let x = split_some 32 r in
    rw (x.2, number_refuses (room_after most used) at x.0 (rw (first_digits 32 r x.0 x.1 (omega arith) x.2, add-zero) at o), add-zero)
codes_refuse most used at (c ∷ cs) r w h o =
    let q : used + suc (length cs) ≡ suc used + length cs = omega arith in
    let l : used < most = omega arith in
    let i : room_after most used ≡ 65536 = rw (lt-ltb used most l) in
    let p : at + length (digits_of c) + 1 + length (spaced cs) ≡ at + length (digits_of c ++ 32 ∷ spaced cs) = omega (arith, length-append (digits_of c) (32 ∷ spaced cs)) in
    rw (
      append_assoc (digits_of c) (32 ∷ spaced cs) r,
      split_cut 32 (digits_of c) (spaced cs ++ r) (digits_free 32 c (omega arith)),
      i,
      number_digits 65536 at c w.0 (omega (arith, w.0)),
      codes_refuse most (suc used) (at + length (digits_of c) + 1) cs r w.1 (omega arith) (rw q at o),
      p,
    )

context_refuses : (most used at : ℕ) {n : ℕ} (cs r : List ℕ) → Words16 cs → used + length cs ≤ most → Over (room_after most (used + length cs)) n (digits_in r)
    → context_of most used at (spaced cs ++ r) ≡ refused n (at + length (spaced cs))
context_refuses most used at cs r w h o =
    context_some most used at (spaced cs ++ r) (omega (arith, length-append (spaced cs) r, in_within r, over_digits o)) ∙ codes_refuse most used at cs r w h o

pub number_line_refuses : (key : List ℕ) (room at : ℕ) {n : ℕ} (r : List ℕ) → Free 10 key → Over room n (digits_in r)
    → line (behind key (number_of room)) at (split 10 (key ++ r)) ≡ refused n (at + length key)
number_line_refuses key room at r f o =
    let x = split_some 10 r in
    let d = first_digits 10 r x.0 x.1 (omega arith) x.2 in
    rw (split_before 10 key r x.0 x.1 f x.2) (line_no (behind key (number_of room)) at (key ++ x.0) x.1 (behind_key key (number_of room) at x.0 ∙ number_refuses room (at + length key) x.0 (rw d at o)))

codes_line_refuses : (most used at : ℕ) {n : ℕ} (cs r : List ℕ) → Words16 cs → used + length cs ≤ most → Over (room_after most (used + length cs)) n (digits_in r)
    → line (behind c_key (context_of most used)) at (split 10 (c_key ++ (spaced cs ++ r))) ≡ refused n (at + 2 + length (spaced cs))
codes_line_refuses most used at cs r w h o =
    let x = split_some 10 r in
    let d = first_digits 10 r x.0 x.1 (omega arith) x.2 in
    let l = spaced cs ++ x.0 in
    let s = split_before 10 (spaced cs) r x.0 x.1 (spaced_free cs) x.2 in
    rw (split_before 10 c_key (spaced cs ++ r) l x.1 (λ e. omega arith, (λ e. omega arith, tt)) s)
    (line_no (behind c_key (context_of most used)) at (c_key ++ l) x.1 (behind_key c_key (context_of most used) at l ∙ context_refuses most used (at + 2) cs x.0 w h (rw d at o)))

pub lines_refuse : (most n used at : ℕ) {m : ℕ} (site : List (List ℕ)) (cs r : List ℕ) → length site < n → SiteWords site → Words16 cs → used + length (all_codes site) + length cs ≤ most
    → Over (room_after most (used + length (all_codes site) + length cs)) m (digits_in r)
    → lines_of most n used at (split 10 (lines_text site ++ (c_key ++ (spaced cs ++ r)))) ≡ refused m (at + length (lines_text site) + 2 + length (spaced cs))
unfolding lines_of lines_text line_text all_codes
lines_refuse most zero used at site cs r l s w h o = absurd (omega arith)
lines_refuse most (suc n) used at [] cs r l s w h o =
    let q : used + 0 + length cs ≡ used + length cs = omega arith in
    let p : at + 0 + 2 + length (spaced cs) ≡ at + 2 + length (spaced cs) = omega arith in
    rw (codes_line_refuses most used at cs r w (omega arith) (rw q at o), p)
lines_refuse most (suc n) used at (c ∷ site) cs r l s w h o =
    let a = c_key ++ codes_text c in
    let t = lines_text site ++ (c_key ++ (spaced cs ++ r)) in
    let m = length-append c (all_codes site) in
    let q : used + length (c ++ all_codes site) + length cs ≡ used + length c + length (all_codes site) + length cs = omega arith in
    let p : at + length a + 1 + length (lines_text site) + 2 + length (spaced cs) ≡ at + length ((a ++ (10 ∷ [])) ++ lines_text site) + 2 + length (spaced cs)
    = omega (arith, length-append (a ++ (10 ∷ [])) (lines_text site), length-append a (10 ∷ [])) in
    let f : Free 10 a = (λ e. omega arith, (λ e. omega arith, codes_free c)) in
    rw (
      append_assoc (a ++ (10 ∷ [])) (lines_text site) (c_key ++ (spaced cs ++ r)),
      cut_line a t f,
      line_first (behind c_key (context_of most used)) at a t (behind_key c_key (context_of most used) at (codes_text c) ∙ context_read most used (at + 2) c s.0 (omega arith)),
      lines_refuse most n (used + length c) (at + length a + 1) site cs r (omega arith) s.1 w (omega arith) (rw q at o),
      p,
    )
