-- the listing of a sheet: its text, its refusals, and what the program prints
pub mod Listing
-- what the listing answers
pub mod Answer
-- what the join tells
pub mod Joined
-- each reading of a listing as an answer, its number and values, and the bytes of the text
pub mod Answers
-- the calls' contracts
pub mod Calls
-- what the functions below the calls leave
pub mod Inside
