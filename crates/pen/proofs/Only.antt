-- One answer only, of the contract itself as it is read from the code: two calls with the same arguments that meet it answer the same
-- pen and leave the same text.
use mathlib.Core.Path.{sym, ◌∙◌}
use mathlib.Core.List.{List}
use Prim.Native.Nat.{ℕ}
use Rattle.words.proofs.OneAnswer.{OneAnswer}
use Rattle.pen.specs.declared.Pen.{Pen}
use Rattle.pen.specs.declared.Twice.{Twice}
use Rattle.pen.specs.Added.{Penned}
use Rattle.pen.proofs.line.Kinds as line_kinds
use Rattle.pen.proofs.line.Reads as line
use Rattle.pen.proofs.line_at.Kinds as line_at_kinds
use Rattle.pen.proofs.line_at.Reads as line_at_lem
use Rattle.pen.proofs.line_if.Kinds as line_if_kinds
use Rattle.pen.proofs.line_if.Reads as line_if
use Rattle.pen.proofs.line_by.Kinds as line_by_kinds
use Rattle.pen.proofs.line_by.Reads as line_by
use Rattle.pen.proofs.two_lines.Kinds as two_lines_kinds
use Rattle.pen.proofs.two_lines.Reads as two_lines

pub line_at_only : OneAnswer 3 line_at_kinds.ps line_at_kinds.r line_at_lem.Post {B = Pen × List ℕ} (λ κs u x. (u, x.0.now))
line_at_only κs a u v x y p q = λ i. ((p.pen ∙ sym q.pen) i, (p.text ∙ sym q.text) i)

-- of `line` the pen is a parameter: it is seen at exit
pub line_only : OneAnswer 4 line_kinds.ps line_kinds.r line.Post {B = Pen × List ℕ} (λ κs u x. (x.1.0.now, x.0.now))
line_only κs a u v x y p q = λ i. ((p.pen ∙ sym q.pen) i, (p.text ∙ sym q.text) i)

pub line_by_only : OneAnswer 3 line_by_kinds.ps line_by_kinds.r line_by.Post {B = Pen × List ℕ} (λ κs u x. (u, x.0.now))
line_by_only κs a u v x y p q = λ i. ((p.pen ∙ sym q.pen) i, (p.text ∙ sym q.text) i)

pub line_if_only : OneAnswer 3 line_if_kinds.ps line_if_kinds.r line_if.Post {B = Penned × List ℕ} (λ κs u x. (u, x.0.now))
line_if_only κs a u v x y p q = λ i. ((p.pen ∙ sym q.pen) i, (p.text ∙ sym q.text) i)

-- the place between the two lines is the same too
pub two_lines_only : OneAnswer 5 two_lines_kinds.ps two_lines_kinds.r two_lines.Post {B = Twice × List ℕ} (λ κs u x. (u, x.0.now))
two_lines_only κs a u v x y p q = λ i. (record { between = (p.between ∙ sym q.between) i; pen = (p.pen ∙ sym q.pen) i }, (p.text ∙ sym q.text) i)
