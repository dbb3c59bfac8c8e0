pub mod Planning
pub mod Shown
pub mod Zoning
