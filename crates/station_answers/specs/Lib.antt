pub mod Asking
pub mod Attaining
pub mod Walks
pub mod Reading
pub mod Naming
pub mod Merging
