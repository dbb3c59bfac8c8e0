pub mod Faults
pub mod Loaded
pub mod NameBytes
pub mod Refused
