pub mod Values
pub mod Systems
pub mod Frames
