-- What proofs of the crates above cite, and nothing else of these lemmas.
pub use Rattle.scene_dispatch.proofs.StoodLemmas.{opened-scene, opened-stands, empty-commands}
pub use Rattle.scene_dispatch.proofs.PlaceLemmas.{all-at}
