pub mod DriftColumnLemmas
pub mod DriftLemmas
pub mod TurnLemmas
pub mod TwiceLemmas
pub mod BareLemmas
pub mod OwnerColumnLemmas
pub mod RestLemmas
