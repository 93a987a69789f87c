-- The contract of `read` says `Reads`, and has one answer only: the answer, and the tables that are left. No other function of the crate
-- is public. `Post` is the contract itself, as it is read from the code.
use mathlib.Core.Path.{◌≡◌, sym, ◌∙◌}
use mathlib.Core.List.{List}
use Prim.Native.Nat.{ℕ}
use Rattle.std.specs.Prelude.{Result}
use Rattle.words.proofs.OneAnswer.{Says, OneAnswer}
use Rattle.refusal.specs.declared.Refusal.{Refusal}
use Rattle.reader.specs.declared.Sheet.{Sheet}
use Rattle.reader.specs.Reading.{reading_said}
use Rattle.reader.specs.Calls.{Reads}
use Rattle.reader.proofs.Answers.{reads_answer, said_tells}
use Rattle.reader.proofs.read.Kinds as read_kinds
use Rattle.reader.proofs.read.Reads as read

-- of the parameters, the tables are the second and the third
pub read_says : Says 3 read_kinds.ps read_kinds.r read.Post (λ κs a u x. Reads a.0.now a.1.0.now a.1.1.0.now (reading_said u) x.1.0.now x.1.1.0.now)
read_says κs a u x p = p

-- one answer, and the two tables with it
pub read_only : OneAnswer 3 read_kinds.ps read_kinds.r read.Post {B = Result Sheet Refusal × (List ℕ × List ℕ)} (λ κs u x. (u, (x.1.0.now, x.1.1.0.now)))
read_only κs a u v x y p q =
    let answer : u ≡ v = said_tells u v (reads_answer p ∙ sym (reads_answer q)) in
    λ i. (answer i, ((p.offsets_are ∙ sym q.offsets_are) i, (p.codes_are ∙ sym q.codes_are) i))
