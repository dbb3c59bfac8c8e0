pub mod Choosing
pub mod Finding
pub mod Folding
pub mod Grouping
pub mod Homes
pub mod Json
pub mod Labels
pub mod Listing
