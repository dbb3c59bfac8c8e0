pub mod Lanes
pub mod LanesWithTags
pub mod TripLanes
pub mod LaneLists
pub mod StopLanes
