-- `search::search`: what `run` tells, the rest of the buffers zeroed behind it.
use Rattle.std.proofs.Common.{ap, ◌∙◌}
use Rattle.search.specs.Outcome.{answer_said}
use Rattle.search.proofs.Outcomes.{zeros_as, search_full, search_told}
use Rattle.search.proofs.search.Goals as goal

pub returns-in_default : goal.returns-in_default
returns-in_default c =
    let r = c.run-told in
    let list = r.auto.list ∙ c.fill.auto.self in
    let work = zeros_as c.args.work.now _ (c.fill-2.ensures.after (λ y h. h)) r.auto.work in
    search_full r.ensures _ _ _ list r.auto.trail work (ap answer_said c.in_default.is) (c.fill-in_default.ensures.after (λ y h. h)) (c.fill-in_default-2.ensures.after (λ y h. h))

pub returns : goal.returns
returns c =
    let r = c.run-told in
    let list = r.auto.list ∙ c.fill.auto.self in
    let work = zeros_as c.args.work.now _ (c.fill-2.ensures.after (λ y h. h)) r.auto.work in
    search_told r.ensures _ _ _ list r.auto.trail work (ap answer_said c.in-Ok.is) c.zero_from.ensures
