-- The definitions that the contracts of this crate cite, in the order in which a reader needs them.
pub mod Parts
pub mod Rulebook
pub mod Lawful
pub mod Scenes
pub mod Ids
pub mod Causes
pub mod Deaths
pub mod Bounds
pub mod Commands
pub mod Leads
pub mod Frames
pub mod Slots
pub mod Declaring
pub mod Laws
pub mod Queues
pub mod Stores
