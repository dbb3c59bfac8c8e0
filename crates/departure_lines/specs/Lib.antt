pub mod Json
pub mod Lines
pub mod Naming
pub mod Showing
pub mod Sought
pub mod Words
