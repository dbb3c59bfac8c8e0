pub mod Listed
pub mod Groups
pub mod Lookup
pub mod Claims
pub mod Bans
pub mod Counting
