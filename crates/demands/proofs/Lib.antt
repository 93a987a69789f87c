-- the refusals of reader, writer and the call for one cell, from their contracts as records
pub mod Refusing
-- the heat map of a join's list, from the contracts as records
pub mod Mapping
-- the three demands and the heat map, each of the contract of its call: read this first
pub mod Demands
-- the shared count by two fingers is that of every list, and of the search's marks
pub mod Counts
