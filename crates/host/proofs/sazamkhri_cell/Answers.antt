-- `host::sazamkhri_cell`: the kind and the value of the library's cell.
use Rattle.host.proofs.Hosted.{hosted_cell}
use Rattle.host.proofs.sazamkhri_cell.Goals as goal

pub returns : goal.returns
returns c = hosted_cell _ _ _ _ _ c.cell_of-r.result c.cell_of-r.ensures c.value_of.ensures c.kind_of.ensures
