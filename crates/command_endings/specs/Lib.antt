pub mod Elapsed
pub mod Ending
pub mod Newlines
pub mod Refusing
