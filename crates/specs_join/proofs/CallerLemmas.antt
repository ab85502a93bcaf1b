-- What proofs of the crates above cite, and nothing else of these lemmas.
pub use Rattle.specs_join.proofs.CursorLemmas.{begun-at, moved-item, next-known, next-some}
pub use Rattle.specs_join.proofs.NewLemmas.{begun-known, walk-members, walk-is}
pub use Rattle.specs_join.proofs.WalkedLemmas.{walk-later}
