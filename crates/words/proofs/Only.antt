-- One answer only: two buffers that meet a contract are equal, whatever numbers they are made of.
-- `Post` is the contract itself, as it is read from the code.
use mathlib.Core.Path.{sym, ◌∙◌}
use mir.Syntax.{Dict}
use denote.RattleType.{RattleType}
use denote.Param.Laws.{Laws, IsCopy}
use Rattle.std.specs.declared.clone.Clone as clone
use Rattle.words.specs.declared.Zero as zero
use Rattle.words.proofs.OneAnswer.{OneAnswer}
use Rattle.words.proofs.zero_from.Kinds as zero_from_kinds
use Rattle.words.proofs.zero_from.Reads as zero_from

pub zero_from_only : (T : RattleType) (L : Laws T) (C : IsCopy T) (g : zero.Ghosts T.Denot) (d : Dict) (h : clone.Ghosts T.Denot) (e : Dict)
    → OneAnswer 2 (zero_from_kinds.ps T L C) (zero_from_kinds.r T L C) (zero_from.Post T L C g d h e) (λ κs u x. x.0.now)
zero_from_only T L C g d h e κs a u v x y p q = p ∙ sym q
