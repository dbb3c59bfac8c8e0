pub mod ByArrivalLemmas
