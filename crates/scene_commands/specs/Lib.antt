-- The definitions that the contracts of this crate cite, in the order in which a reader needs them.
pub use Rattle.scene_world.specs.Standing
pub use Rattle.scene_world.specs.Changes
pub use Rattle.scene_world.specs.Places
pub mod Bounds
pub mod Acts
pub mod Elsewhere
pub mod Watching
pub mod Deaths
pub mod Newborns
pub mod Lists
pub mod Gone
pub mod Links
pub mod Owning
pub mod Reaching
pub mod Members
pub use Rattle.scene_document.specs.Drafts
pub use Rattle.scene_document.specs.DraftViews
pub use Rattle.scene_document.specs.Documents
pub use Rattle.scene_document.specs.Openings as FirstScenes
pub mod Openings
pub mod Entries
pub mod Fills
pub mod Becoming
pub mod Notes
