-- the paper's sheet and its listing, and refused sheets
pub mod Examples
-- the join in the listing's rooms
pub mod Joining
-- the tables of the sheet that was read
pub mod Sheets
-- what passed all refusals but the last
pub mod Passing
-- lines behind a pen
pub mod Adding
-- the listing at the front of the text
pub mod Putting
-- a listing has at most 2,048 bytes
pub mod Short
-- the numbers and places of refusals
pub mod Refusals
-- what an answer tells by number and values
pub mod Telling
-- what the program prints
pub mod Printing
-- what the contracts say, and one answer only
pub mod Only
