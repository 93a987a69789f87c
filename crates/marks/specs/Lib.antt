-- the marks of some codes, and how many codes are marked
pub mod Marks
