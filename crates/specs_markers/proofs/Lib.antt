pub mod NoteLemmas
pub mod LastLemmas
pub mod MarkingLemmas
pub mod CallerLemmas
pub mod BelowLemmas
