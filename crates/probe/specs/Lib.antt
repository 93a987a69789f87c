-- Probe    the four words of an answer, and what each call leaves
pub mod Probe
