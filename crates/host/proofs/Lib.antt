-- the library's answers as the host's values
pub mod Hosted
-- what the contracts say, and one answer only
pub mod Only
-- the host calls say what the library's calls say
pub mod Same
