pub mod Entries
pub mod Searches
pub mod Insertions
