pub mod Drifts
pub mod GoalLemmas
