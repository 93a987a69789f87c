-- `reader::read`: the answer tells how many words hold data, and behind them stand zeros.
use Rattle.reader.proofs.Zeros.{offsets_fit, codes_fit, offsets_zeroed, codes_zeroed, zeros_behind}
use Rattle.reader.proofs.read.Goals as goal

pub zero_from-requires : goal.zero_from-requires
zero_from-requires c = offsets_fit c.read_into-r.ensures c.words_used-offsets_used.ensures.offsets

pub zero_from-requires-2 : goal.zero_from-requires-2
zero_from-requires-2 c = codes_fit c.read_into-r.ensures c.words_used-offsets_used.ensures.codes

pub returns : goal.returns
returns c =
    let r = c.read_into-r in
    let o = offsets_zeroed r.ensures c.words_used-offsets_used.ensures.offsets r.auto.offsets c.zero_from.ensures in
    let d = codes_zeroed r.ensures c.words_used-offsets_used.ensures.codes r.auto.codes c.zero_from-2.ensures in
    zeros_behind _ _ _ r.ensures o d
