-- The heat map of a list that a join left, from the contracts of both calls as records.
use mathlib.Core.List.{List, [], ◌∷◌, ◌++◌, map, map-map}
use mathlib.Core.Path.{◌≡◌, sym, ap, ◌∙◌}
use Prim.Native.Nat.{ℕ, ◌*◌, ◌≤◌, ◌<◌}
use native.Mathlib.Omega.{arith}
use lib.Ieee.{Float}
use lib.ListN.{length, drop, length-append, length-drop}
use lib.Seq.{take-append_seam}
use Rattle.words.specs.Words.{Begins}
use Rattle.order.specs.Order.{◌∈◌}
use Rattle.site.specs.Site.{Pair, shared_of, union_of}
use Rattle.entries.specs.Entries.{width, entry_of, first_four, entries}
use Rattle.entries.specs.Listed.{entry_words}
use Rattle.entries.specs.declared.Entry.{Entry}
use Rattle.entries.proofs.Listed.{entry_length, entries_back}
use Rattle.tables.specs.Check as check
use Rattle.tables.proofs.Sound.{contexts_are, size_small}
use Rattle.search.specs.Outcome.{Tells}
use Rattle.join.specs.Join.{JoinCall, call_site, Joins}
use Rattle.join.proofs.Accepted.{told_accepted, told_rises}
use Rattle.join.proofs.Demands.{call_list, joins_2}
use Rattle.heat.specs.Cells.{cell_in}
use Rattle.heat.specs.Answers.{CellCall, cell_entries, cell_checked, cell_of, Shows}
use Rattle.heat.specs.declared.Cell.{Cell}
use Rattle.heat.specs.declared.Cell.TheVariants as cell
use Rattle.heat.specs.CellAnswer as answer
use Rattle.heat.proofs.Only.{shows}
use Rattle.heat.proofs.Unseen.{unseen}
use Rattle.heat.proofs.Mapped.{counts_of, by_cell, fine_on_map}
use Rattle.heat.proofs.Values.{TwoCounts, keeps_apart, apart, up_to_one, above_zero}
use Rattle.demands.specs.Heat.{OnMap, Rounds, InRange}

-- a value is not blank, and no cell is a refusal
value_apart : {v : Float} {X : Type 0} → answer.Cell cell.Blank ≡ answer.Cell (cell.Value v) → X
value_apart e = let z : ◌≡◌ {A = ℕ} 0 1 = cc e in absurd (omega arith)

cell_apart : {x : Cell} {n p : ℕ} → answer.Cell x ≡ answer.Refused n p → ⊥
cell_apart e = let z : ◌≡◌ {A = ℕ} 0 1 = cc e in omega arith

module _ {j : JoinCall} (J : Joins j) {f e m : ℕ} (t : Tells j.answer 0 (f ∷ e ∷ m ∷ [])) where
  -- a cell of a list that begins with the words of the entries
  map_begun : {c : CellCall} → Shows c → c.contexts ≡ length (call_site j) → c.entries ≡ f → Begins c.list (entry_words (call_site j) (call_list j))
      → c.first < c.contexts → c.second < c.contexts → OnMap j c
  map_begun {c} S n k h A B =
      let site = call_site j in
      let d = joins_2 J t in
      let fine : cell_checked c ≡ check.Fine = rw (n, k) (fine_on_map site (call_list j) c.list h d.counted (told_rises J t) d.shares c.first c.second (rw n at A) (rw n at B)) in
      let es : cell_entries c ≡ map (entry_of site) (call_list j) = rw k (entries_back site (call_list j) c.list d.counted h) in
      let shown = S.shown fine ∙ ap (λ (x : List Entry). answer.Cell (cell_in c.first c.second x)) es in
      by_cell d.shares c.first c.second
      (λ i v. let a = shown ∙ ap answer.Cell v in
      record { accepted = λ n p r. cell_apart (sym a ∙ r); listed = (λ x. i, λ x. (_, a)); value = λ x. a; blank = λ x. absurd (x i) })
      (λ i v. let a = shown ∙ ap answer.Cell v in
      record { accepted = λ n p r. cell_apart (sym a ∙ r); listed = (λ x. value_apart (sym a ∙ x.1), λ x. absurd (i x)); value = λ x. absurd (i x); blank = λ x. a })

  -- the list of a cell with the words of the join's entries written over its own
  abbrev over : CellCall → List ℕ
  over c = entry_words (call_site j) (call_list j) ++ drop (width * f) c.list

  over_long : (c : CellCall) → width * f ≤ length c.list → length c.list ≡ length (over c)
  over_long c h = omega (arith, length-append (entry_words (call_site j) (call_list j)) (drop (width * f) c.list), length-drop (width * f) c.list, entry_length (call_site j) (call_list j), (joins_2 J t).counted)

  over_four : (c : CellCall) → map first_four (entries f c.list) ≡ map first_four (entries f j.list') → map first_four (entries f c.list) ≡ map first_four (entries f (over c))
  over_four c four =
      let d = joins_2 J t in
      let back = entries_back (call_site j) (call_list j) (over c) d.counted (take-append_seam (entry_words (call_site j) (call_list j)) _) in
      four ∙ d.four ∙ sym (ap (map first_four) back ∙ map-map first_four (entry_of (call_site j)) (call_list j))

  -- a cell of a list whose entries have the first four words of the join's
  pub map_cell : (c : CellCall) → c.answer ≡ cell_of c.contexts c.list c.entries c.first c.second → c.contexts ≡ length (call_site j) → c.entries ≡ f
      → width * f ≤ length c.list → map first_four (entries f c.list) ≡ map first_four (entries f j.list')
      → c.first < c.contexts → c.second < c.contexts → OnMap j c
  map_cell c q n k room four A B =
      let same = unseen f c.list (over c) (over_four c four) c.contexts c.first c.second (over_long c room) in
      let e = q ∙ ap (λ (x : ℕ). cell_of c.contexts c.list x c.first c.second) k ∙ same ∙ ap (λ (x : ℕ). cell_of c.contexts (over c) x c.first c.second) (sym k) in
      let d : CellCall = record { contexts = c.contexts; list = over c; entries = c.entries; first = c.first; second = c.second; answer = c.answer } in
      let m = map_begun (shows d e) n k (take-append_seam (entry_words (call_site j) (call_list j)) _) A B in
      record { accepted = m.accepted; listed = m.listed; value = m.value; blank = m.blank }

  counts : (p : Pair) → p ∈ call_list j → TwoCounts (shared_of (call_site j) p) (union_of (call_site j) p)
  counts p i =
      let s = (joins_2 J t).shares p i in
      let sound = (told_accepted J t).sound in
      let n = contexts_are sound in
      counts_of (told_rises J t) p s (size_small sound p.lower (omega (arith, s.rising, s.inside))) (size_small sound p.higher (omega (arith, s.inside)))

  -- the rounding loses nothing of two pairs listed
  pub map_rounds : (p q : Pair) → p ∈ call_list j → q ∈ call_list j → Rounds (call_site j) p q
  map_rounds p q P Q = record { less = keeps_apart (counts p P) (counts q Q); same = apart (counts p P) (counts q Q) }

  pub map_range : (p : Pair) → p ∈ call_list j → InRange (call_site j) p
  map_range p P = record { above = above_zero (counts p P) ((joins_2 J t).shares p P).some; most = up_to_one (counts p P) }
