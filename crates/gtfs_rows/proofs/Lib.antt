pub mod CellLemmas
pub mod FaultLemmas
pub mod KeyLemmas
pub mod PositionLemmas
pub mod SourceLemmas
pub mod ValueLemmas
