pub mod BoolLemmas
pub mod DigitLemmas
pub mod FirstLemmas
pub mod ListLemmas
pub mod OptionLemmas
pub mod OrderLemmas
