-- What proofs of the crates above cite, and nothing else of these lemmas.
pub use Rattle.scene_commands.proofs.GoingLemmas.{goes-nowhere, goes-both}
pub use Rattle.scene_commands.proofs.BoundLemmas.{grows-none, bounded-on, all-live, all-born}
pub use Rattle.scene_commands.proofs.GlobalLemmas.{sees-now}
pub use Rattle.scene_commands.proofs.LinkLemmas.{none-covers}
