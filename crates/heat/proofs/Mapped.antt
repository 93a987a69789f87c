-- The cells of two contexts turned round, and over the entries of pairs that share a code, as a join leaves them in its list.
use mathlib.Core.Bool.{true, and-eq-true_iff}
use mathlib.Core.List.Memᴰ.{cases_cons as first_or_rest}
use mathlib.Core.List.Memᴰ.{head as here}
use mathlib.Core.List.Memᴰ.{not-nil}
use mathlib.Core.List.Memᴰ.{tail as there}
use mathlib.Core.List.{List, [], ◌∷◌, map}
use mathlib.Core.Logic.{⊎_elim}
use mathlib.Core.Option.{none, some}
use mathlib.Core.Path.{◌≡◌, refl, sym, ap, ◌∙◌}
use Prim.Native.Nat.{ℕ, ◌*◌, ◌/◌, ◌≤◌, ◌<◌, min, max, zero-le}
use native.Mathlib.Omega.{arith}
use lib.Dec.{eqb}
use lib.ListN.{length, get_or, length-take}
use borrow.Author.Tests.{eq-eqb, ne_eqb, lt-ltb, le-ltb, eqb-true}
use Rattle.words.specs.Words.{Begins}
use Rattle.words.proofs.Lists.{map_at}
use Rattle.words.proofs.Split.{by_eq}
use Rattle.order.specs.Order.{◌∈◌, keep, kth}
use Rattle.order.proofs.Lists.{cases, never}
use Rattle.site.specs.Site.{Site, Rising, Pair, Shares, size_of, shared_of, union_of, union}
use Rattle.site.proofs.Contexts.{get_or_in, shared_within}
use Rattle.tables.specs.Check as check
use Rattle.tables.proofs.Meaning.{means_fine}
use Rattle.entries.specs.Entries.{width, entry_of, entries}
use Rattle.entries.specs.Listed.{entry_words}
use Rattle.entries.specs.declared.Entry.{Entry}
use Rattle.entries.proofs.Listed.{entry_length, entries_back}
use Rattle.entries.proofs.Reading.{entries_at}
use Rattle.heat.specs.Cells.{quotient, as_pair, names, entry_for, cell_in}
use Rattle.heat.specs.Checks.{numbers_check, count_check, entry_rule, rule_at, cell_check}
use Rattle.heat.specs.Answers.{cell_of}
use Rattle.heat.specs.declared.Cell.TheVariants as cell
use Rattle.heat.proofs.Values.{TwoCounts}

-- ---- both ways round

cell_turned : (a b : ℕ) (es : List Entry) → cell_in a b es ≡ cell_in b a es
unfolding cell_in
cell_turned a b es =
    let x : min b a ≡ min a b = omega arith in
    let y : max b a ≡ max a b = omega arith in
    by_eq a b (λ e. rw (eq-eqb a b e, eq-eqb b a (sym e))) (λ n. rw (ne_eqb a b n, ne_eqb b a (λ e. n (sym e)), x, y))

pub turned : (contexts : ℕ) (list : List ℕ) (n a b : ℕ) → a < contexts → b < contexts → cell_of contexts list n a b ≡ cell_of contexts list n b a
unfolding cell_of cell_check numbers_check
turned contexts list n a b A B = rw (lt-ltb a contexts A, lt-ltb b contexts B, cell_turned a b (entries n list))

-- ---- the entry of a pair, among the entries of pairs

module _ (site : Site) (p : Pair) where
  names_own : (q : Pair) → p ≡ q → names p (entry_of site q) ≡ true
  unfolding names
  names_own q e = rw (eq-eqb q.lower p.lower (ap (λ (x : Pair). x.lower) (sym e)), eq-eqb q.higher p.higher (ap (λ (x : Pair). x.higher) (sym e)))

  names_only : (q : Pair) → names p (entry_of site q) ≡ true → p ≡ q
  unfolding names
  names_only q t =
      let a = (and-eq-true_iff (eqb q.lower p.lower) (eqb q.higher p.higher)).0 t in
      let x : q.lower ≡ p.lower = eqb-true q.lower p.lower a.0 in
      let y : q.higher ≡ p.higher = eqb-true q.higher p.higher a.1 in
      sym (λ i. record { lower = x i; higher = y i })

  -- it is there exactly if the pair is
  by_listed : {X : Type 0} (qs : List Pair) → (p ∈ qs → entry_for p (map (entry_of site) qs) ≡ some (entry_of site p) → X)
      → ((p ∈ qs → ⊥) → entry_for p (map (entry_of site) qs) ≡ none → X) → X
  unfolding entry_for keep kth
  by_listed [] f g = g not-nil refl
  by_listed (q ∷ qs) f g =
      cases (names p (entry_of site q)) (λ t. f (here (names_only q t)) (rw t (ap (λ (x : Pair). some (entry_of site x)) (sym (names_only q t)))))
      (λ n. by_listed qs (λ m e. f (there m) (rw n e)) (λ m e. g (λ i. ⊎_elim (λ x. never (names_own q x) n) m (first_or_rest i)) (rw n e)))

-- ---- pairs that share a code

-- their counts, where the tables keep every context small
pub counts_of : {site : Site} → Rising site → (p : Pair) → Shares site p → size_of site p.lower ≤ 4096 → size_of site p.higher ≤ 4096
    → TwoCounts (shared_of site p) (union_of site p)
unfolding union
counts_of {site} R p s h k = record { some = omega (arith, s.some, shared_within R p); word = omega arith; part = shared_within R p }

-- their entries keep the rule
rule_kept : {site : Site} → Rising site → (p : Pair) → Shares site p → entry_rule (length site) (entry_of site p) ≡ 0
unfolding entry_rule
rule_kept {site} R p s = rw (lt-ltb _ _ s.rising, lt-ltb _ _ s.inside, ne_eqb (shared_of site p) 0 (λ z. omega (arith, s.some)), le-ltb (union_of site p) (shared_of site p) (shared_within R p))

module _ {site : Site} {pairs : List Pair} (share : (p : Pair) → p ∈ pairs → Shares site p) where
  -- the cell of two contexts is the quotient of their own counts if they are one of the pairs, else blank
  pub by_cell : {X : Type 0} (a b : ℕ)
      → (as_pair a b ∈ pairs → cell_in a b (map (entry_of site) pairs) ≡ cell.Value (quotient (shared_of site (as_pair a b)) (union_of site (as_pair a b))) → X)
      → ((as_pair a b ∈ pairs → ⊥) → cell_in a b (map (entry_of site) pairs) ≡ cell.Blank → X) → X
  unfolding cell_in
  by_cell a b f g =
      by_listed site (as_pair a b) pairs
      (λ m e. f m (let n : a ≡ b → ⊥ = λ z. omega (arith, (share (as_pair a b) m).rising) in rw (ne_eqb a b n, e)))
      (λ m e. g m (by_eq a b (λ z. rw (eq-eqb a b z)) (λ n. rw (ne_eqb a b n, e))))

-- ---- a list that begins with their entries, whatever stands behind

module _ (site : Site) (pairs : List Pair) (list : List ℕ) {found : ℕ} (h : Begins list (entry_words site pairs)) (c : found ≡ length pairs) where
  -- it has room for them
  room : width * found ≤ length list
  room = omega (arith, c, entry_length site pairs, ap length h, length-take (length (entry_words site pairs)) list)

  module _ (R : Rising site) (share : (p : Pair) → p ∈ pairs → Shares site p) where
    kept_at : (i : ℕ) → i < found → rule_at (length site) list i ≡ 0
    unfolding rule_at
    kept_at i l =
        let any = as_pair 0 0 in
        let d = entry_of site any in
        let l' : i < length pairs = omega (arith, c) in
        let e = sym (entries_at list found i d l) ∙ ap (λ (es : List Entry). get_or es i d) (entries_back site pairs list c h) ∙ map_at (entry_of site) pairs i d any l' in
        ap (entry_rule (length site)) e ∙ rule_kept R (get_or pairs i any) (share (get_or pairs i any) (get_or_in pairs i any l'))

    -- no cell of two contexts of the site is refused
    pub fine_on_map : (a b : ℕ) → a < length site → b < length site → cell_check (length site) list found a b ≡ check.Fine
    unfolding cell_check numbers_check count_check
    fine_on_map a b A B =
        let few : found ≤ length list / width = omega (arith, room) in
        rw (lt-ltb a (length site) A, lt-ltb b (length site) B, le-ltb (length list / width) found few) (means_fine (rule_at (length site) list) 0 found zero-le (λ j x l. kept_at j l))
