pub mod Cells
pub mod Faults
pub mod Ids
pub mod Positions
pub mod Source
pub mod Tables
pub mod FaultNumber
pub mod Values
