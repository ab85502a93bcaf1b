-- What proofs of the crates above cite, and nothing else of these lemmas.
pub use Rattle.specs_entity.proofs.ListLemmas.{first-member, first-walked}
pub use Rattle.specs_entity.proofs.SyncLemmas.{entity_seat_sync, phase_seat_sync, phase_seat_field_sync}
