pub mod Bundled
pub mod Chores
pub mod Ones
pub mod Sides
pub mod Threes
pub mod Values
