pub mod ByArrival
