pub mod Joining
pub mod Listed
pub mod Merging
pub mod Repeated
pub mod Runs
pub mod Sought
pub mod Tables
