pub mod LineValue
pub mod Words
pub mod Style
pub mod Moments
pub mod Pictures
pub mod JourneyLines
