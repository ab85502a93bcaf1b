pub mod SightLemmas
pub mod BuryLemmas
pub mod StrikeLemmas
