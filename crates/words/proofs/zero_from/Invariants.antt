-- The loop of `words::zero_from`: what it has come by is zero.
use Rattle.std.proofs.Common.{◌≡◌, take, replicate}
use Rattle.words.proofs.zero_from.Given as goal

abbrev pub invariant-loop-number : goal.invariant-loop-number
invariant-loop-number g l = take l.number-index l.number-items ≡ replicate l.number-index g.T.Zero.ZERO
