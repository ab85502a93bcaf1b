-- The definitions that the contracts of this crate cite, in the order in which a reader needs them.
pub mod Drafts
pub mod Texts
pub mod DraftViews
pub mod ShapeWords
pub mod Documents
pub mod Apart
pub mod TokenWords
pub mod Openings
pub mod Loading
pub mod Names
pub mod Refusals
