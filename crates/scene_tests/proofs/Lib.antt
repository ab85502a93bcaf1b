pub mod HeldLemmas
pub mod LeaverLemmas
pub mod LeavingLemmas
pub mod AloneLemmas
