pub mod InLanes
pub mod ByTrips
pub mod TakenByTrips
