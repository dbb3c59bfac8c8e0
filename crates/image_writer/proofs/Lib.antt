pub mod NameCounts
pub mod Fours
pub mod Sections
pub mod Fits
