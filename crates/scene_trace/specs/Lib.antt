pub mod Texts
pub mod Boxes
