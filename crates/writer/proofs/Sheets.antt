-- The lines of the tables' contexts, and the sheet, line after line.
use mathlib.Core.Path.{◌≡◌, refl}
use mathlib.Core.List.{List, [], ◌∷◌, ◌++◌, append-nil, append_assoc}
use Prim.Native.Nat.{ℕ, ◌+◌, ◌-◌, ◌≤◌, ◌<◌}
use native.Mathlib.Nat.{zero-add}
use native.Mathlib.Omega.{arith}
use lib.ListN.{length, get_or}
use Rattle.site.specs.Site.{codes_of}
use Rattle.site.specs.Tables.{site_of}
use Rattle.tables.specs.Sound.{Sound}
use Rattle.tables.proofs.Sound.{contexts_are}
use Rattle.sheet.specs.Text.{k_key, contexts_key, c_key, line_text, context_text, number_text, lines_text, sheet_text}
use Rattle.pen.specs.declared.Pen.{Pen}
use Rattle.pen.specs.declared.Twice.{Twice}
use Rattle.pen.specs.Lines.{Fits, LinedTwice, front_pen}
use Rattle.pen.specs.Added.{Penned, On, Full, Added, LinedIf}
use Rattle.pen.proofs.Grown.{Grows}
use Rattle.pen.proofs.Past.{line_some, Grown}
use Rattle.pen.proofs.Added.{added_stop, added_then, line_added, grown_next, grown_full}
use Rattle.pen.proofs.InTurn.{first_full, second_full, both_on}

-- the lines grow by that of a context
none : lines_text [] ≡ []
unfolding lines_text
none = refl

snoc : (site : List (List ℕ)) (c : List ℕ) → lines_text (site ++ (c ∷ [])) ≡ lines_text site ++ context_text c
unfolding lines_text
snoc [] c = append-nil _
snoc (e ∷ site) c = rw (snoc site c, append_assoc)

pub lines_grow : Grows lines_text (λ i c. context_text c)
lines_grow = record { none = none; snoc = snoc }

module _ {os cs : List ℕ} (s : Sound os cs) where
  -- as many contexts as offsets but one
  pub one_less : length os - 1 ≡ length (site_of os cs)
  one_less = omega (arith, contexts_are s)

  -- so their number fits a word
  pub contexts_few : length (site_of os cs) ≤ 256
  contexts_few = omega (arith, contexts_are s, s.few)

-- the lines of the contexts before i, and then the line of the context i, if it fits
module _ (site : List (List ℕ)) (i : ℕ) {old mid now c : List ℕ} {p q : Pen} {r : Penned} (f : Fits p old) (g : Grown lines_text site old mid p q i) (h : i < length site) (e : c ≡ codes_of site i) (w : LinedIf (line_text c_key c) mid now q r) where
  added : Added (context_text (get_or site i [])) mid now q r
  added = rw e at (line_added g.past.fits w)

  pub context_more : {z : Pen} → r ≡ On z → Grown lines_text site old now p z (i + 1)
  context_more = grown_next lines_grow [] f g h added

  pub context_full : r ≡ Full → Added (lines_text site) old now p Full
  context_full = grown_full lines_grow [] f g h added

-- a pen at the text's first byte
pub at_front : (text : List ℕ) → Fits (front_pen text) text
at_front text = zero-add (length text)

-- the sheet behind its two head lines
module _ (k : ℕ) (site : List (List ℕ)) {old mid : List ℕ} {p : Pen} (f : Fits p old) {n : ℕ} (q : n ≡ length site) {t : Twice} (v : LinedTwice (number_text k_key k) (number_text contexts_key n) old mid p t) where
  -- the head lines, with the number of contexts
  heads : LinedTwice (number_text k_key k) (number_text contexts_key (length site)) old mid p t
  heads = rw q at v

  -- the `k=` line has no room
  pub k_full : t.between ≡ p.place → Added (sheet_text k site) old mid p Full
  unfolding sheet_text
  k_full e = added_stop (first_full heads f (line_some k_key (k ∷ [])) e) (lines_text site) refl

  module _ (m : t.between ≡ p.place → ⊥) where
    -- the `contexts=` line has none
    pub contexts_full : t.pen.place ≡ t.between → Added (sheet_text k site) old mid p Full
    unfolding sheet_text
    contexts_full e = added_stop (second_full heads f m (line_some contexts_key (length site ∷ [])) e) (lines_text site) refl

    -- the contexts' lines behind both
    pub sheet_done : (t.pen.place ≡ t.between → ⊥) → {now : List ℕ} {r : Penned} → Added (lines_text site) mid now t.pen r → Added (sheet_text k site) old now p r
    unfolding sheet_text
    sheet_done e u = added_then (both_on heads f m e) f refl u
