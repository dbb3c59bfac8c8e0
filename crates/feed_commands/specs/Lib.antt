pub mod Building
pub mod Folders
pub mod Refusing
pub mod Stations
pub mod Tabling
