-- What proofs of the crates above cite, and nothing else of these lemmas.
pub use Rattle.shred_crew.proofs.DealLemmas.{length-set}
