-- The fifth word of an entry is not looked at: of two lists as long whose counted entries have the same first four words, every cell
-- is the same.
use mathlib.Core.Bool.{cond}
use mathlib.Core.List.{List, [], ◌∷◌, map, map-map}
use mathlib.Core.Path.{◌≡◌, refl, sym, ap, ◌∙◌}
use Prim.Native.Nat.{ℕ, ◌*◌, ◌<◌, zero-le}
use native.Mathlib.Omega.{arith}
use lib.Dec.{eqb}
use lib.ListN.{length, get_or}
use Rattle.words.proofs.Lists.{map_at}
use Rattle.order.specs.Order.{keep, kth}
use Rattle.order.proofs.Lists.{cases}
use Rattle.site.specs.Site.{Pair}
use Rattle.tables.specs.Checks.{◌and_then◌}
use Rattle.tables.proofs.Meaning.{earliest_ext}
use Rattle.entries.specs.Entries.{width, first_four, entry_at, entries}
use Rattle.entries.specs.declared.Entry.{Entry}
use Rattle.entries.proofs.Reading.{length_entries, entries_at, uncoded}
use Rattle.heat.specs.Cells.{as_pair, names, entry_for, cell_for, cell_in}
use Rattle.heat.specs.Checks.{numbers_check, count_check, entry_rule, rule_at, cell_check}
use Rattle.heat.specs.Answers.{cell_by, cell_of}
use Rattle.heat.specs.declared.Cell.TheVariants.{Blank}

-- the rule is that of the first four words
rule_uncoded : (contexts : ℕ) (e : Entry) → entry_rule contexts e ≡ entry_rule contexts (uncoded e)
unfolding entry_rule
rule_uncoded contexts e = refl

-- and so is the cell
cell_uncoded : (p : Pair) (es : List Entry) → cell_for (entry_for p es) ≡ cell_for (entry_for p (map uncoded es))
unfolding entry_for keep kth names
cell_uncoded p [] = refl
cell_uncoded p (e ∷ es) = cases (names p e) (λ t. rw t) (λ f. rw f (cell_uncoded p es))

-- the entry i without its code
uncoded_at : (n : ℕ) (ws : List ℕ) (i : ℕ) → i < n → get_or (map uncoded (entries n ws)) i (entry_at [] 0) ≡ uncoded (entry_at ws (width * i))
uncoded_at n ws i h =
    map_at uncoded (entries n ws) i (entry_at [] 0) (entry_at [] 0) (omega (arith, length_entries ws 0 n)) ∙ ap uncoded (entries_at ws n i (entry_at [] 0) h)

module _ (n : ℕ) (list other : List ℕ) (same : map first_four (entries n list) ≡ map first_four (entries n other)) where
  uncoded_same : map uncoded (entries n list) ≡ map uncoded (entries n other)
  uncoded_same = sym (map-map (λ (ws : List ℕ). entry_at ws 0) first_four (entries n list)) ∙ ap (map (λ (ws : List ℕ). entry_at ws 0)) same ∙ map-map (λ (ws : List ℕ). entry_at ws 0) first_four (entries n other)

  rule_same : (contexts i : ℕ) → i < n → rule_at contexts list i ≡ rule_at contexts other i
  unfolding rule_at
  rule_same contexts i h =
      let e = sym (uncoded_at n list i h) ∙ ap (λ (es : List Entry). get_or es i (entry_at [] 0)) uncoded_same ∙ uncoded_at n other i h in
      rule_uncoded contexts (entry_at list (width * i)) ∙ ap (entry_rule contexts) e ∙ sym (rule_uncoded contexts (entry_at other (width * i)))

  cell_same : (a b : ℕ) → cell_in a b (entries n list) ≡ cell_in a b (entries n other)
  unfolding cell_in
  cell_same a b =
      let p = as_pair a b in
      let e = cell_uncoded p (entries n list) ∙ ap (λ (es : List Entry). cell_for (entry_for p es)) uncoded_same ∙ sym (cell_uncoded p (entries n other)) in
      ap (cond (eqb a b) Blank) e

  pub unseen : (contexts a b : ℕ) → length list ≡ length other → cell_of contexts list n a b ≡ cell_of contexts other n a b
  unfolding cell_of cell_check
  unseen contexts a b l =
      let rules = earliest_ext (rule_at contexts list) (rule_at contexts other) 0 n zero-le (λ i x h. rule_same contexts i h) in
      λ i. cell_by (numbers_check contexts a b and_then (count_check (l i) n and_then rules i)) (cell_same a b i)
