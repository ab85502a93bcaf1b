pub mod OpenLemmas
pub mod PartLemmas
pub mod PlaceLemmas
pub mod PairLemmas
