-- `listing::write_refusal`: one line, for which there is room.
use Rattle.std.proofs.Common.{sym, arith}
use Rattle.listing.specs.Listing.{refused_text}
use Rattle.listing.specs.Calls.{page_room}
use Rattle.listing.proofs.Printing.{page_long, refused_short, line_written}
use Rattle.listing.proofs.write_refusal.Goals as goal

pub line_by-requires : goal.line_by-requires
line_by-requires c = sym (page_long c.requires.zero)

pub returns : goal.returns
unfolding refused_text
returns c =
    rw (← c.number.ensures) (line_written page_room c.requires.zero (refused_short c.number.result c.args.refusal.place (omega arith) c.requires.place_short) c.line_by.ensures)
