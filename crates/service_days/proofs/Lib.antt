pub mod DateLemmas
pub mod DayLemmas
pub mod StartLemmas
mod Weekdays
