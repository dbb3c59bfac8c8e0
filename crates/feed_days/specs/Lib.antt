pub mod Days
pub mod Counting
pub mod Service
