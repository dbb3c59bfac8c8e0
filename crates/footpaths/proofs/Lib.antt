pub mod SearchLemmas
pub mod WalkLemmas
pub mod IndexLemmas
pub mod OrderLemmas
pub mod ClosureLemmas
pub mod LawLemmas
pub mod ExistenceLemmas
