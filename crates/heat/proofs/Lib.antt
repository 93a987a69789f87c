-- the division of two counts is their quotient, rounded once
pub mod Rounded
-- what a value tells
pub mod Values
-- the loop that looks for an entry
pub mod Sought
-- the rule of an entry, and its meaning
pub mod Rules
-- what accepted checks tell, and the answer
pub mod Accepting
-- what the contract says, and one answer only
pub mod Only
-- the cause of each refusal, both ways
pub mod Causes
-- the same of a call
pub mod Refusing
-- worked cells
pub mod Examples
-- cells turned round, and the cells of a join's list
pub mod Mapped
-- the fifth word of an entry is not looked at
pub mod Unseen
