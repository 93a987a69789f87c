-- the contracts of the calls
pub mod Call
