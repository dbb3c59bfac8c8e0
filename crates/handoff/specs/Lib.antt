pub mod Queue
pub mod Ends
pub mod MessageLemmas
pub mod SumLemmas
pub mod Rules
