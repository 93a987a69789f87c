-- However the search counts what two contexts share, it is what students count with two fingers: of every call of `shared_count` and of
-- every call of the other functions that meets its contract. `Post` is a call's contract itself, as it is read from the code.
use mathlib.Core.List.{List}
use mathlib.Core.List.Memᴰ.{of_map}
use mathlib.Core.Path.{◌≡◌, refl, sym, ap, ap₂, ◌∙◌}
use Prim.Native.Nat.{ℕ}
use contract.Lifetimes.{Lfts}
use denote.Triple.Clauses.{AtExit}
use borrow.Fn.Kinds.{Dens, res_t, ended_of}
use borrow.Author.Tests.{eq-eqb}
use Rattle.site.specs.Site.{codes_of, shared, first_code}
use Rattle.site.proofs.Contexts.{shared_even, first_even}
use Rattle.entries.specs.Entries.{entry_of}
use Rattle.join.specs.Join.{call_site}
use Rattle.join.proofs.Accepted.{told_entries}
use Rattle.join.proofs.Demands.{call_list}
use Rattle.join.proofs.Only.{call_of, join_says}
use Rattle.join.proofs.join.Kinds as join_kinds
use Rattle.join.proofs.join.Reads as join
use Rattle.walk.proofs.shared_count.Kinds as shared_count_kinds
use Rattle.walk.proofs.shared_count.Reads as shared_count
use Rattle.marks.specs.Marks.{marked_from}
use Rattle.marks.proofs.mark.Kinds as mark_kinds
use Rattle.marks.proofs.mark.Reads as mark
use Rattle.marks.proofs.marked_from.Kinds as marked_from_kinds
use Rattle.marks.proofs.marked_from.Reads as marked_from_call
use Rattle.marks.proofs.Marked.{marked_first}
use Rattle.demands.specs.Counts.{CountCall, ListsCount, MarksCount}

-- the call of `shared_count` with the arguments a that answers u
abbrev pub count_call : (κs : Lfts 2) → Dens κs shared_count_kinds.ps → (res_t shared_count_kinds.r κs).Denot → CountCall
count_call κs a u = record { left = a.0.now; right = a.1.0.now; answer = u }

module _ (κs' : Lfts 2) (b : Dens κs' shared_count_kinds.ps) (v : (res_t shared_count_kinds.r κs').Denot)
    (y : AtExit (ended_of 2 shared_count_kinds.ps shared_count_kinds.r) κs') (q : shared_count.Post κs' b v y) where
  -- a join
  pub list_counts : (κs : Lfts 5) (a : Dens κs join_kinds.ps) (u : (res_t join_kinds.r κs).Denot) (x : AtExit (ended_of 5 join_kinds.ps join_kinds.r) κs)
      → join.Post κs a u x → ListsCount (call_of κs a u x) (count_call κs' b v)
  list_counts κs a u x p f e m told g listed left right =
      let site = call_site (call_of κs a u x) in
      let pair = of_map (entry_of site) (call_list (call_of κs a u x)) (rw (told_entries (join_says κs a u x p) told) at listed) in
      let same : g.shared ≡ shared (codes_of site g.lower.0) (codes_of site g.higher.0) = rw (← pair.2) refl in
      same ∙ sym (q ∙ ap₂ shared left right)

  -- and a call of `mark` with one of `marked_from` behind it
  pub marks_count : (κs κs'' : Lfts 2) (a : Dens κs mark_kinds.ps) (c : Dens κs'' marked_from_kinds.ps)
      (u : (res_t mark_kinds.r κs).Denot) (w : (res_t marked_from_kinds.r κs'').Denot)
      (x : AtExit (ended_of 2 mark_kinds.ps mark_kinds.r) κs) (z : AtExit (ended_of 2 marked_from_kinds.ps marked_from_kinds.r) κs'')
      → mark.Post κs a u x → marked_from_call.Post κs'' c w z → c.0.now ≡ x.0.now
      → MarksCount (record { marked = a.1.0.now; counted = c.1.0.now; from = c.1.1.0; answer = w }) (count_call κs' b v)
  marks_count κs κs'' a c u w x z p r marks left right from rises rises' small =
      let xs = a.1.0.now in
      let ys = c.1.0.now in
      let first : first_code ys xs ≡ c.1.1.0 = first_even ys xs rises' rises ∙ sym from in
      r ∙ ap (λ (l : List ℕ). marked_from l c.1.1.0 ys) (marks ∙ p) ∙ marked_first xs ys c.1.1.0 small
      ∙ rw (eq-eqb (first_code ys xs) c.1.1.0 first) (shared_even ys xs rises' rises)
      ∙ sym (q ∙ ap₂ shared left right)
