-- `Tables::context`: a part of the codes between two offsets of sound tables.
use Rattle.std.proofs.Common.{◌+◌, arith}
use Rattle.tables.proofs.Sound.{offset_rises, offset_within, context_part}
use Rattle.tables.proofs.accepted.Tables.context.Goals as goal

pub slice_bounds-result-count : goal.slice_bounds-result-count
slice_bounds-result-count c = offset_rises c.args.self.sound c.args.c.0 c.requires

pub slice_bounds-result-start : goal.slice_bounds-result-start
slice_bounds-result-start c = omega (arith, offset_rises c.args.self.sound c.args.c.0 c.requires)

pub slice_bounds-result-end : goal.slice_bounds-result-end
slice_bounds-result-end c = omega (arith, offset_rises c.args.self.sound c.args.c.0 c.requires, offset_within c.args.self.sound (c.args.c.0 + 1) c.requires)

pub returns : goal.returns
returns c = context_part c.args.self.sound c.args.c.0 c.requires
