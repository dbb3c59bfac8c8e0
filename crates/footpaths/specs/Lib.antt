pub mod FaultNumber
pub mod Walks
pub mod Closure
pub mod Search
pub mod Index
pub mod Collected
