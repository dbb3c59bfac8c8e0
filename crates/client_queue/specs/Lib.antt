pub mod Ends
pub mod Dealing
