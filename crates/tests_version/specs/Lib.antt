pub mod PlainStore
pub mod Stepping
