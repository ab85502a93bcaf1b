pub mod Marks
pub mod Marking
pub mod Noting
pub mod Simple
pub mod Uuids
