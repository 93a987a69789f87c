-- a reading: a value, or a refusal with its place
pub mod Read
-- decimal numbers, and the reading of one
pub mod Number
-- a text cut at a byte: lines, words
pub mod Pieces
-- the text of a sheet
pub mod Text
-- the reading of a sheet
pub mod Reading
-- the values that fit words and lent tables
pub mod Fits
-- what each refusal means
pub mod Meaning
