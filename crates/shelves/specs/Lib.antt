pub mod FaultNumber
pub mod Seats
pub mod SeatHistory
pub mod SeatLaws
pub mod ShelfSeats
pub mod ShelfLoads
pub mod Pinned
pub mod Words
