-- tables that the check lets pass
pub mod Accepted
