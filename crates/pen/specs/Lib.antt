-- pieces of a line, written one after the other
pub mod Pieces
-- a line, and the pen moved on behind it
pub mod Lines
-- lines behind a pen, or no room for them
pub mod Added
