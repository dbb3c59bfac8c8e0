pub mod AnswerChannels
pub mod AnswerRules
pub mod Keeping
pub mod Asking
pub mod Answering
