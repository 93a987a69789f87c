-- `agenda::posted_at`: the n-th word of a code's bucket, where the bucket has one, tells the n-th event.
use Rattle.std.proofs.Common.{rules}
use Rattle.agenda.proofs.Marks.{bucket_rises, word_inside}
use Rattle.agenda.proofs.posted_at.Goals as goal

pub overflow_sub-end : goal.overflow_sub-end
overflow_sub-end c = search (rules, bucket_rises)

pub bounds-work-start : goal.bounds-work-start
bounds-work-start c = search (rules, word_inside)
