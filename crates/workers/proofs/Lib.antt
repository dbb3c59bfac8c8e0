pub mod Ending
pub mod Shared
pub mod ExactSessions
