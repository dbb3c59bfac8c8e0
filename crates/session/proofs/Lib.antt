pub mod SeatLemmas
pub mod LearnLemmas
mod MetLemmas
mod AskedLemmas
pub mod ExchangeLemmas
mod LineLemmas
mod OneLemmas
