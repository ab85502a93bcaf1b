pub mod Drifts
