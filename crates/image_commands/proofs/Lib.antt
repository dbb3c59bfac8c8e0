mod AnswerLemmas
pub mod MatrixLemmas
mod Picturing
mod Ranges
mod Readings
mod StopLines
mod Braces
