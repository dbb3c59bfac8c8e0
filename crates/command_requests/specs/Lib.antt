pub mod Ending
pub mod Naming
pub mod Paths
