-- The call's contract says `Writes`, and has one answer only. `Post` is the contract itself, as it is read from the code.
use mathlib.Core.Path.{◌≡◌, sym, ◌∙◌}
use mathlib.Core.List.{List}
use Prim.Native.Nat.{ℕ}
use native.Mathlib.Omega.{arith}
use Rattle.std.proofs.Common.{Result}
use Rattle.words.proofs.OneAnswer.{Says, OneAnswer}
use Rattle.refusal.specs.declared.Refusal.{Refusal}
use Rattle.refusal.proofs.Said.{Telling, said_tells}
use Rattle.writer.specs.Writes.{Written, Refused, writing_said}
use Rattle.writer.specs.Calls.{Writes}
use Rattle.writer.proofs.write.Kinds as write_kinds
use Rattle.writer.proofs.write.Reads as write

-- of the parameters k, offsets and codes are the first three, and the text is the fourth
pub write_says : Says 3 write_kinds.ps write_kinds.r write.Post (λ κs a u x. Writes a.0 a.1.0.now a.1.1.0.now a.1.1.1.0.now (writing_said u) x.1.1.1.0.now)
write_says κs a u x p = p

-- an answer tells its result
telling : Telling Written Refused
telling = record {
  told = λ a b e. cc;
  apart = λ a n p e. let z : ◌≡◌ {A = ℕ} 0 1 = cc in absurd (omega arith);
  number = λ n p m q e. cc;
  place = λ n p m q e. cc;
}

-- two calls with the same arguments that meet it answer the same, and leave the same text
pub write_only : OneAnswer 3 write_kinds.ps write_kinds.r write.Post {B = Result ℕ Refusal × List ℕ} (λ κs u x. (u, x.1.1.1.0.now))
write_only κs a u v x y p q = λ i. (said_tells telling u v (p.answer ∙ sym q.answer) i, (p.text_is ∙ sym q.text_is) i)
