pub mod Days
pub mod Faults
pub mod Named
pub mod Services
pub mod Zones
