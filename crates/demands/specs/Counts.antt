-- The shared count that students walk with two fingers, `shared_count`, and the faster ways that must agree with it.
use Rattle.std.specs.Prelude.{List, [], ◌∷◌, ◌≡◌, ℕ, ltb}
use Rattle.order.specs.Order.{◌∈◌, Sorted}
use Rattle.site.specs.Site.{codes_of, first_code}
use Rattle.entries.specs.Entries.{entries}
use Rattle.entries.specs.declared.Entry.{Entry}
use Rattle.marks.specs.Marks.{HaveMarks}
use Rattle.search.specs.Outcome.{Tells}
use Rattle.join.specs.Join.{JoinCall, call_site}

-- a call of `shared_count`: the two rows, and what is counted
pub record CountCall : Type 0 where
  pub left : List ℕ
  pub right : List ℕ
  pub answer : ℕ

-- The list of an accepted join: the shared count of each entry is what two fingers count along its two contexts.
abbrev pub ListsCount : JoinCall → CountCall → Type 0
ListsCount j c =
    (f e m : ℕ) → Tells j.answer 0 (f ∷ e ∷ m ∷ []) → (g : Entry) → g ∈ entries f j.list'
    → c.left ≡ codes_of (call_site j) g.lower.0 → c.right ≡ codes_of (call_site j) g.higher.0
    → g.shared ≡ c.answer

-- a call of `mark` and then one of `marked_from` with the marks that it left: the codes marked, the codes counted, from which code on, the answer
pub record MarkedCall : Type 0 where
  pub marked : List ℕ
  pub counted : List ℕ
  pub from : ℕ
  pub answer : ℕ

-- The search's way to count, by marks: from the first shared code on it gives what two fingers count.
abbrev pub MarksCount : MarkedCall → CountCall → Type 0
MarksCount m c =
    c.left ≡ m.marked → c.right ≡ m.counted → m.from ≡ first_code m.marked m.counted
    → Sorted ltb m.marked → Sorted ltb m.counted → HaveMarks m.counted
    → m.answer ≡ c.answer
