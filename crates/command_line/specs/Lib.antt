pub mod Grammar
pub mod Joining
pub mod Options
pub mod Reading
pub mod Requests
pub mod Values
