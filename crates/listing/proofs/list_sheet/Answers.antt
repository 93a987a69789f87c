-- `listing::list_sheet`: zeros behind the text, and everywhere after a refusal.
use Rattle.listing.proofs.Putting.{put_room, listing_done}
use Rattle.listing.proofs.list_sheet.Goals as goal

pub zero_from-requires : goal.zero_from-requires
zero_from-requires c = let l = c.list_into-listed in put_room l.result l.ensures c.unwrap_or.ensures

pub returns : goal.returns
returns c = let l = c.list_into-listed in listing_done l.result l.ensures l.auto.text c.unwrap_or.ensures c.zero_from.ensures
