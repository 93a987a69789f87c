-- `listing::print_sheet`: every listing fits its text, and so does every refusal.
use Rattle.std.proofs.Common.{refl, arith}
use Rattle.listing.proofs.Printing.{refusal_fits, refusal_zero, prints_listing, prints_refusal}
use Rattle.listing.proofs.print_sheet.Goals as goal

pub write_refusal-requires-clause-zero : goal.write_refusal-requires-clause-zero
write_refusal-requires-clause-zero c = refusal_zero c.in-Err.ensures (search) refl

pub write_refusal-requires-clause-place_short : goal.write_refusal-requires-clause-place_short
write_refusal-requires-clause-place_short c = omega (arith, (refusal_fits c.in-Err.ensures (search) refl).place)

pub returns-in-Ok : goal.returns-in-Ok
returns-in-Ok c = prints_listing c.in-Ok.ensures (search) refl

pub returns-in-Err : goal.returns-in-Err
returns-in-Err c = prints_refusal c.in-Err.ensures (search) refl c.write_refusal.ensures
