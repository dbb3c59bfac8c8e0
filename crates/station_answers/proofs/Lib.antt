pub mod WalkLemmas
pub mod SetLemmas
pub mod MergeLemmas
pub mod ReadLemmas
pub mod TellLemmas
pub mod NameLemmas
