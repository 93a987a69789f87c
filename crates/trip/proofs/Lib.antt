-- what a reading leaves at the front of the tables
pub mod Fronts
-- tables that pass 1 to 5 fit a sheet
pub mod Fitting
-- both round trips over the two calls
pub mod Trips
