-- the cell of two contexts, and its value
pub mod Cells
-- the checks of a call, in their order
pub mod Checks
-- what it answers, and what a result says
pub mod CellAnswer
-- its answer
pub mod Answers
-- the cause of each refusal
pub mod Refusals
