pub mod Examples
pub mod WrongSteps
pub mod Bonus
pub mod Both
