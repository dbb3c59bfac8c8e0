pub mod Base
pub mod Days
pub mod Entries
pub mod Facts
pub mod Json
pub mod Naming
