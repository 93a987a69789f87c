-- `reader::context::context_in`: a broken key, an empty context, or the codes behind the key.
use Rattle.reader.proofs.Contexts.{context_broken, context_empty, context_codes}
use Rattle.reader.proofs.context.context_in.Goals as goal

pub returns-then-m-lt2-clause-value : goal.returns-then-m-lt2-clause-value
returns-then-m-lt2-clause-value c =
    rw (c.at.ensures.rule, c.at.ensures.place)
    (context_broken _ _ c.matched-m.ensures.0 _ c.args.codes.now c.if-m-lt2.true {now = c.args.codes.now}).0

pub returns-then-m-lt2-clause-stored : goal.returns-then-m-lt2-clause-stored
returns-then-m-lt2-clause-stored c = (context_broken _ _ c.matched-m.ensures.0 _ c.args.codes.now c.if-m-lt2.true).1

pub returns-then-m-l-clause-value : goal.returns-then-m-l-clause-value
returns-then-m-l-clause-value c =
    rw c.end.ensures (context_empty _ _ c.matched-m.ensures.0 _ c.args.codes.now c.if-m-lt2.false c.if-m-l.true c.requires).0

pub returns-then-m-l-clause-stored : goal.returns-then-m-l-clause-stored
returns-then-m-l-clause-stored c =
    (context_empty _ _ c.matched-m.ensures.0 _ c.args.codes.now c.if-m-lt2.false c.if-m-l.true c.requires).1

pub returns-clause-value : goal.returns-clause-value
returns-clause-value c =
    (context_codes _ _ c.matched-m.ensures.0 _ c.args.codes.now c.if-m-lt2.false c.matched-m.ensures.1 c.if-m-l.false c.behind.ensures
    (c.codes_in.ensures.value, c.codes_in.ensures.stored)).0

pub returns-clause-stored : goal.returns-clause-stored
returns-clause-stored c =
    (context_codes _ _ c.matched-m.ensures.0 _ c.args.codes.now c.if-m-lt2.false c.matched-m.ensures.1 c.if-m-l.false c.behind.ensures
    (c.codes_in.ensures.value, c.codes_in.ensures.stored)).1
