-- the paper's number of each rule, and what a result says
pub mod Numbers
