pub mod Deals
pub mod Cuts
pub mod Lines
