pub mod Falling
pub mod Fields
pub mod Figures
pub mod Rows
pub mod Tally
