-- what a check says
pub mod Check
-- the earliest index that a rule refuses
pub mod Earliest
-- the rules of offsets and codes
pub mod Rules
-- the checks 1 to 5 in their order
pub mod Checks
-- tables that pass 2 to 5
pub mod Sound
-- accepted tables and their site
pub mod Accepted
-- what it means to be refused, and not to be
pub mod Refusals
