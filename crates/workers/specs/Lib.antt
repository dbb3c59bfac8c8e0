pub mod Words
pub mod Ends
pub mod Sessions
pub mod Ordering
pub mod Posts
pub mod Headline
