pub mod ClosedLemmas
pub mod LoadLemmas
pub mod MadeLemmas
pub mod NameLemmas
