-- One answer only: two values and two sets of buffers that meet a call's contract are equal. `Post` is the contract itself, as it is
-- read from the code; of the parameters, the buffers are the last ones.
use mathlib.Core.Path.{sym, ◌∙◌}
use Prim.Native.Nat.{ℕ}
use Rattle.words.proofs.OneAnswer.{OneAnswer}
use Rattle.probe.specs.Probe.{AfterJoin, after_join, AfterRead, after_read, AfterWrite, after_write, AfterCell, after_cell}
use Rattle.probe.proofs.probe_join.Kinds as probe_join_kinds
use Rattle.probe.proofs.probe_join.Reads as probe_join
use Rattle.probe.proofs.probe_read.Kinds as probe_read_kinds
use Rattle.probe.proofs.probe_read.Reads as probe_read
use Rattle.probe.proofs.probe_write.Kinds as probe_write_kinds
use Rattle.probe.proofs.probe_write.Reads as probe_write
use Rattle.probe.proofs.probe_cell.Kinds as probe_cell_kinds
use Rattle.probe.proofs.probe_cell.Reads as probe_cell

pub probe_join_only : OneAnswer 6 probe_join_kinds.ps probe_join_kinds.r probe_join.Post {B = ℕ × AfterJoin}
    (λ κs u x. (u, after_join x.1.1.1.0.now x.1.1.1.1.0.now x.1.1.1.1.1.0.now x.1.1.1.1.1.1.0.now))
probe_join_only κs a u v x y p q = λ i. ((p.0 ∙ sym q.0) i, (p.1 ∙ sym q.1) i)

pub probe_read_only : OneAnswer 4 probe_read_kinds.ps probe_read_kinds.r probe_read.Post {B = ℕ × AfterRead}
    (λ κs u x. (u, after_read x.1.0.now x.1.1.0.now x.1.1.1.0.now))
probe_read_only κs a u v x y p q = λ i. ((p.0 ∙ sym q.0) i, (p.1 ∙ sym q.1) i)

pub probe_write_only : OneAnswer 4 probe_write_kinds.ps probe_write_kinds.r probe_write.Post {B = ℕ × AfterWrite}
    (λ κs u x. (u, after_write x.1.1.1.0.now x.1.1.1.1.0.now))
probe_write_only κs a u v x y p q = λ i. ((p.0 ∙ sym q.0) i, (p.1 ∙ sym q.1) i)

pub probe_cell_only : OneAnswer 3 probe_cell_kinds.ps probe_cell_kinds.r probe_cell.Post {B = ℕ × AfterCell}
    (λ κs u x. (u, after_cell x.1.1.1.1.1.0.now x.1.1.1.1.1.1.0.now))
probe_cell_only κs a u v x y p q = λ i. ((p.0 ∙ sym q.0) i, (p.1 ∙ sym q.1) i)
