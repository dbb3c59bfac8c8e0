pub mod WorkerSeats
pub mod History
pub mod Pins
pub mod Publishing
pub mod Locked
pub mod TableLaws
