pub mod NodeLemmas
pub mod JourneyNodeLemmas
pub mod StepFacts
pub mod LogLemmas
mod TakeLemmas
mod EverywhereLemmas
pub mod OrderLemmas
pub mod Times
pub mod Sound
pub mod Complete
pub mod StepLemmas
pub mod Ends
pub mod Answer
pub mod Listed
pub mod Single
pub mod AnsweredLemmas
pub mod Windows
