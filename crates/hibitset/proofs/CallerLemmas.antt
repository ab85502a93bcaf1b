-- What proofs of the crates above cite, and nothing else of these lemmas.
pub use Rattle.hibitset.proofs.CutLemmas.{length-walk}
pub use Rattle.hibitset.proofs.FoldLemmas.{holds-in-parts, if_ok, zip-map}
pub use Rattle.hibitset.proofs.SyncLemmas.{seat_sync, bit_seat_field_sync, bit_seat_sync}
