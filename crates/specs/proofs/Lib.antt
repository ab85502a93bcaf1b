pub mod HistoryLemmas
pub mod SlotLemmas
pub mod PhaseLemmas
pub mod TurnLemmas
pub mod AcceptLemmas
pub mod CallerLemmas
