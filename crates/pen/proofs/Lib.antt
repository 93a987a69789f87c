-- bytes written over a text, one piece after the other
pub mod Written
-- a text that grows by a piece for each element of a list
pub mod Grown
-- the numbers of a line
pub mod Numbers
-- a line, and what is known of the pen behind it
pub mod Lined
-- lines behind the pen's place, one after the other: for whoever writes them
pub mod Past
-- lines behind a pen, or no room for them: one line, and pieces one after the other
pub mod Added
-- two lines one after the other
pub mod InTurn
-- a pen in a local, as what can be lent
pub mod PenCell
-- slices as they are passed, and a text that is lent again
pub mod Passed
-- a text and a pen, lent to one line
pub mod Lending
-- the contract of `line`, as a fact
pub mod LineContract
-- one answer only
pub mod Only
