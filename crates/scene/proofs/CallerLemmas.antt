-- What proofs of the crates above cite, and nothing else of these lemmas.
pub use Rattle.scene.proofs.KeptTextLemmas.{kept-scene-is}
pub use Rattle.scene.proofs.BearerLemmas.{bearer-none, bearer-one}
pub use Rattle.scene.proofs.KeptLemmas.{has-room}
