pub mod Files
pub mod Hashed
pub mod Memory
pub mod Outcome
pub mod Reading
pub mod Reads
pub mod Seen
