-- What the loop of `tables::check_codes` keeps, and what it has found.
use Rattle.tables.specs.Check.{Refused}
use Rattle.tables.proofs.Parts.{parted_start, parted_next, parted_found, parted_end, part_ends, part_within}
use Rattle.std.proofs.Common.{◌+◌, ◌<◌, length, refl, ◌∙◌, arith}
use Rattle.refusal.proofs.Passed.{passed}
use Rattle.tables.proofs.check_codes.Goals as goal

pub loop-i-init : goal.loop-i-init
loop-i-init c = search parted_start

pub check_part-requires : goal.check_part-requires
check_part-requires c =
    let inside : c.loop-i.i + 1 < length c.args.offsets.now = omega (arith, c.loop-i-test.true) in
    (part_ends c.requires.offsets_nonzero c.requires.codes_value c.loop-i.invariant inside, part_within c.requires.offsets_nonzero c.requires.codes_value c.loop-i.invariant inside)

pub returns-in_err-check_part : goal.returns-in_err-check_part
returns-in_err-check_part c =
    passed _ Refused _ c.from_residual.result c.from_residual.ensures.1
    ∙ parted_found c.requires.offsets_nonzero c.requires.codes_value c.loop-i.invariant (omega (arith, c.loop-i-test.true)) c.in_err-check_part.ensures refl

pub loop-i-preserved : goal.loop-i-preserved
loop-i-preserved c = parted_next c.requires.offsets_nonzero c.requires.codes_value c.loop-i.invariant (omega (arith, c.loop-i-test.true)) c.in_ok-check_part.ensures refl

pub returns : goal.returns
returns c = parted_end c.requires.offsets_nonzero c.requires.codes_value c.loop-i.invariant (omega (arith, c.loop-i-test.false))
