-- The contract of `line` as a fact of its arguments and of the parameters at exit, written out, since `line` takes a record by `&mut`:
-- `post_is` says that it is the contract in the code and no other, `post_read` that it is what the toolchain reads from the code.
use mathlib.Core.Path.{◌≡◌, refl}
use seplogic.Ra.Ura.{Ura}
use base.Logic.{SProp}
use prog.Memory.{Memory}
use prog.Routine.{Routine}
use types.Logic.{Logic}
use contract.Monad.{Fun, fact}
use contract.Lifetimes.{Lfts}
use denote.Triple.Entry.{Args, Res}
use denote.Triple.Clauses.{AtExit}
use Rattle.sheet.specs.Text.{line_text}
use Rattle.pen.specs.Lines.{Lined}
use Rattle.pen.specs.contracts.line as line
use Rattle.pen.proofs.line.Reads as read

-- text, pen, key and numbers are the four parameters in turn
abbrev pub Post : (κs : Lfts 4) → Args line.signature κs → Res line.signature κs → AtExit line.ended κs → Type 0
Post κs a u x = Lined (line_text a.1.1.0.now a.1.1.1.0.now) a.0.now x.0.now a.1.0.now x.1.0.now

-- what the code's `ensures` states is that fact
pub post_is : {M : Type 1} {𝓤 : Ura M} (𝓛 : Logic 𝓤) (mem : Memory → SProp 𝓤) (run : Routine → Fun 𝓤) (κs : Lfts 4) (a : Args line.signature κs) (u : Res line.signature κs) (x : AtExit line.ended κs)
    → (line.clauses 𝓛 mem run κs a).ensures tt u x ≡ fact 𝓤 (Post κs a u x)
post_is 𝓛 mem run κs a u x = refl

-- and the contract as the toolchain reads it from the code is that fact too
pub post_read : (κs : Lfts 4) (a : Args line.signature κs) (u : Res line.signature κs) (x : AtExit line.ended κs) → read.Post κs a u x ≡ Post κs a u x
post_read κs a u x = refl
