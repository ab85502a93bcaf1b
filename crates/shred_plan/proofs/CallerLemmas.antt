-- What proofs of the crates above cite, and nothing else of these lemmas.
pub use Rattle.shred_plan.proofs.LawLemmas.{groups-apart, stands-once}
pub use Rattle.shred_plan.proofs.WaitLemmas.{systems-wait}
