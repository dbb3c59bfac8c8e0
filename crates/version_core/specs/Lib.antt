pub mod State
pub mod Steps
pub mod Runs
pub mod Invariants
pub mod Laws
pub mod Rest
pub mod Shown
pub mod Actors
