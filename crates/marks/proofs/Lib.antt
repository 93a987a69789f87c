-- Bits    the bits of a number: what one of them tells, and one more of them set
-- Marked  the marks of some codes: one more code, what a mark tells, and that the codes marked are those shared
-- Loops   the loops of `mark`, `count` and `marked_from`
-- Only    one answer only
pub mod Bits
pub mod Marked
pub mod Loops
pub mod Only
