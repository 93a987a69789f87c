-- `sazamkhri::main`: what it prints is within its text.
use Rattle.std.proofs.Common.{sym, length-take-le}
use Rattle.listing.proofs.Printing.{printed_within}
use Rattle.sazamkhri.proofs.main.Goals as goal

pub slice_bounds-text-end : goal.slice_bounds-text-end
slice_bounds-text-end c = printed_within c.print_sheet-m.ensures

pub slice_bounds-write_all-end : goal.slice_bounds-write_all-end
slice_bounds-write_all-end c = sym (length-take-le _ _ (printed_within c.print_sheet-m.ensures))
