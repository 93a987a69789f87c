-- Probed   a call through the probe
-- Only     one answer only
pub mod Probed
pub mod Only
