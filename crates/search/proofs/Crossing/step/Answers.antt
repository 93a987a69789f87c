-- `search::Crossing::step`: a pair met before, one that does not meet here, and one that does, noted and entered.
use Rattle.std.proofs.Common.{◌∙◌}
use Rattle.tables.proofs.Sound.{sound_rises}
use Rattle.search.proofs.Steps.{shares, shared_none, shared_some, meets_none, meets_before, meets_one}
use Rattle.search.proofs.Kept.{entry_positive}
use Rattle.search.proofs.Crossing.step.Goals as goal

pub returns-then-met_before-clause-meets : goal.returns-then-met_before-clause-meets
returns-then-met_before-clause-meets c = meets_before c.args.self.beside _ (c.met_before.ensures c.if-met_before.true)

pub returns-then-not-marked-clause-meets : goal.returns-then-not-marked-clause-meets
returns-then-not-marked-clause-meets c =
    let m = c.ready_marks-marked.ensures in meets_none c.args.self.beside _ (m.apart c.if-not-marked.true) m.remarked.1

pub shared_marked-shared-requires-clause-laid : goal.shared_marked-shared-requires-clause-laid
shared_marked-shared-requires-clause-laid c = c.ready_marks-marked.ensures.laid c.if-not-marked.false

pub returns-then-shared-eq0-clause-meets : goal.returns-then-shared-eq0-clause-meets
returns-then-shared-eq0-clause-meets c =
    let b = c.args.self.beside in
    meets_none b _ (shared_none b c.shared_marked-shared.ensures c.if-shared-eq0.true) c.ready_marks-marked.ensures.remarked.1

pub enter-requires-clause-ordered : goal.enter-requires-clause-ordered
enter-requires-clause-ordered c =
    (c.requires.ordered, entry_positive (sound_rises c.args.self.tables.sound) _ _ c.entry_here.ensures (shares c.args.self.beside))

pub returns : goal.returns
returns c =
    let b = c.args.self.beside in
    let m = c.ready_marks-marked.ensures in
    let n = c.note_pair.ensures in
    let one = (shared_some b c.shared_marked-shared.ensures c.if-shared-eq0.false).0 in
    let meets = meets_one b _ (sound_rises c.args.self.tables.sound) one c.entry_here.ensures c.enter.ensures in
    record { meets = meets (λ pairs seen. n.noted pairs (λ h. m.remarked.1 ∙ seen h)); work_unchanged = n.work_unchanged ∙ m.remarked.0; laid = λ e. n.work_unchanged_2 ∙ m.laid e }
