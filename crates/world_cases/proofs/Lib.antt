pub mod ValueLemmas
pub mod HistoryLemmas
pub mod GivingLemmas
pub mod LazyValueLemmas
pub mod LoadLemmas
pub mod RoundLemmas
pub mod SavedValueLemmas
