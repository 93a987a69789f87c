-- each rule has a number of its own
pub mod Numbers
-- what `?` hands on
pub mod Passed
-- what a result says tells the result
pub mod Said
-- one answer only
pub mod Only
