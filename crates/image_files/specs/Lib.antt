pub mod Held
pub mod Naming
pub mod Out
pub mod Texts
pub mod Watching
pub mod Writing
