-- `listing::write_listing`: the lines of the listing, or 12.
use Rattle.listing.proofs.Putting.{put_full, put_text}
use Rattle.listing.proofs.write_listing.Goals as goal

pub returns-in-Some : goal.returns-in-Some
returns-in-Some c = put_text c.add_listing.ensures c.in-Some.is

pub returns-in-None : goal.returns-in-None
returns-in-None c = rw (c.at.ensures.rule, c.at.ensures.place) (put_full c.add_listing.ensures c.in-None.is)
