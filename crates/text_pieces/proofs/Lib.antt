pub mod Commas
pub mod Joined
