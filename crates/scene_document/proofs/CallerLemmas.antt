-- What proofs of the crates above cite, and nothing else of these lemmas.
pub use Rattle.scene_document.proofs.ShapeLemmas.{bytes_eq-symmetric, is_some-place_of}
pub use Rattle.scene_document.proofs.TextLemmas.{entries_more}
pub use Rattle.scene_document.proofs.ReadingLemmas.{ReadsBack-printed, depth-outline}
pub use Rattle.scene_document.proofs.PairLemmas.{pairs_of, members-pairs, ordered-pairs}
pub use Rattle.scene_document.proofs.PlaceLemmas.{ids-plain}
pub use Rattle.scene_document.proofs.LoadedLemmas.{ids-below, no_past, no_double, no_dangling, unrefused, living-loaded, admitted-loaded, readable-loaded, commands-plain, lists-lawful, few-entries, store-known}
