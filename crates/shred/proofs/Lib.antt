pub mod NameLemmas
pub mod LocalLemmas
pub mod BatchLemmas
pub mod HistoryLemmas
pub mod AsyncLemmas
pub mod OrderLemmas
pub mod WaitLemmas
pub mod NumberLemmas
pub mod BundleLemmas
pub mod TurnLemmas
pub mod CallerLemmas
pub mod HalfLemmas
pub mod TreeOrderLemmas
mod CellLemmas
mod HeldLemmas
mod SeatLemmas
mod HashedLemmas
