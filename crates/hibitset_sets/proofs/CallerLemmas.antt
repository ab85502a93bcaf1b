-- What proofs of the crates above cite, and nothing else of these lemmas.
pub use Rattle.hibitset_sets.proofs.AssignLemmas.{any-walk, members-walked}
pub use Rattle.hibitset_sets.proofs.CountLemmas.{ones-clear, ones-none, ones-set}
pub use Rattle.hibitset_sets.proofs.ExtendLemmas.{All_yielded, refs-yielded}
pub use Rattle.hibitset_sets.proofs.LayoutLemmas.{contains-with, contains-without}
pub use Rattle.hibitset_sets.proofs.StepLemmas.{left-empty}
pub use Rattle.hibitset_sets.proofs.TakeLemmas.{placed-start, walk-without}
pub use Rattle.hibitset_sets.proofs.WalkLemmas.{walk-same, filter-same, filter-none}
pub use Rattle.hibitset_sets.proofs.WordWalkLemmas.{word-count, word-first, word-none}
