-- What the checks 1 to 7 tell where they accept.
-- That is what the search asks of its caller.
use mathlib.Core.List.{List}
use mathlib.Core.Path.{◌≡◌}
use Prim.Native.Nat.{ℕ, ◌*◌, ◌≤◌, ◌<◌}
use lib.Dec.{ltb}
use borrow.Author.Tests.{ltb-false}
use Rattle.tables.specs.Checks.{tables_check}
use Rattle.tables.specs.Sound.{Sound}
use Rattle.tables.specs.Check as check
use Rattle.tables.proofs.Checks.{both_fine, when_fine}
use Rattle.tables.proofs.Checks as tables
use Rattle.entries.specs.Entries.{width}
use Rattle.join.specs.Join.{rooms_check, call_check}

pub record CallAccepted (k : ℕ) (os cs : List ℕ) (list work : ℕ) : Type 0 where
  pub some : 0 < k
  pub few : k ≤ 64
  pub sound : Sound os cs
  pub list_room : width * k ≤ list
  pub work_room : 10240 ≤ work

pub call_accepted : (k : ℕ) (os cs : List ℕ) (list work : ℕ) → call_check k os cs list work ≡ check.Fine → CallAccepted k os cs list work
unfolding call_check rooms_check
call_accepted k os cs list work e =
    let a = both_fine (tables_check k os cs) _ e in
    let b = when_fine (ltb list (width * k)) 6 _ a.1 in
    let c = when_fine (ltb work 10240) 7 _ b.1 in
    let t = tables.accepted k os cs a.0 in
    record { some = t.asked; few = t.most; sound = t.sound; list_room = ltb-false list (width * k) b.0; work_room = ltb-false work 10240 c.0 }
