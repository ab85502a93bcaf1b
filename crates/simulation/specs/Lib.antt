pub mod Values
pub mod Steps
pub mod Frames
pub mod Colonies
