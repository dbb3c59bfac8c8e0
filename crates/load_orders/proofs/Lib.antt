pub mod AskLemmas
pub mod NameLemmas
