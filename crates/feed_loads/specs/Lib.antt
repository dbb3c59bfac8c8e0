pub mod Words
pub mod Loading
pub mod Learned
pub mod Drawing
pub mod Carrying
pub mod Lines
pub mod Posts
