-- What proofs of the crates above cite, and nothing else of these lemmas.
pub use Rattle.specs_markers.proofs.NoteLemmas.{at_numbers, same-test, get-number, allocated-is, gives-notes, one-noted}
pub use Rattle.specs_markers.proofs.LastLemmas.{note-of-last, rises-of}
