-- The definitions that the contracts of this crate cite, in the order in which a reader needs them.
pub mod Paths
pub mod Faults
