pub mod Apps
pub mod Distinct
pub mod Entered
pub mod Feeds
pub mod Joined
