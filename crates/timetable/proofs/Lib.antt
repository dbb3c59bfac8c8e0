pub mod FirstLemmas
pub mod LegalLemmas
pub mod ClockLemmas
