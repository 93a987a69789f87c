-- what the reader and the writer owe
pub mod Sheets
-- what the call for one cell owes, and the heat map of a join's list
pub mod Heat
-- the shared count by two fingers, and the faster ways that agree with it
pub mod Counts
