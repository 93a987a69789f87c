-- what the earliest broken index means
pub mod Meaning
-- the invariant of a loop that tests index after index
pub mod Checked
-- the walk from context to context
pub mod Parts
-- what sound tables are
pub mod Sound
-- checks one after the other
pub mod Checks
-- tables and sites, both ways
pub mod Cuts
-- what the rules say of one place
pub mod Rulings
-- the order of the refusals
pub mod Turns
-- what the checks mean: `refused_exactly`, `fine_is_site`
pub mod Refusals
-- the checks on both sides of their borders
pub mod Borders
-- the tables of a site pass
pub mod Sites
-- one answer only
pub mod Only
