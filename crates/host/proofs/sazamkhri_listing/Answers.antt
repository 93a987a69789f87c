-- `host::sazamkhri_listing`: the library's answer, as one number.
use Rattle.std.proofs.Common.{refl}
use Rattle.host.proofs.Hosted.{host_value_by, hosted}
use Rattle.host.proofs.sazamkhri_listing.Goals as goal

pub returns-in-Ok : goal.returns-in-Ok
unfolding host_value_by
returns-in-Ok c = hosted c.in-Ok.ensures refl

pub returns-in-Err : goal.returns-in-Err
unfolding host_value_by
returns-in-Err c = hosted c.in-Err.ensures c.refused.ensures
