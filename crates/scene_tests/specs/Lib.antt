-- Rules whose one system takes parts out and sets the global.
pub mod Leavers
pub mod LeaverLaws
pub mod Leaving
pub mod Alone
pub mod Watched
pub mod WatchedLaws
pub mod Gated
pub mod GatedLaws
