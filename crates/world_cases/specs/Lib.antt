pub mod Tiring
pub mod Values
pub mod Tasks
pub mod LazyValues
pub mod AskerMeets
pub mod OwnerLemmas
pub mod SavedValues
