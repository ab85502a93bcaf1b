-- What callers of dispatchers cite.
pub use Rattle.shred.proofs.BundleLemmas.{accepted-changes}
pub use Rattle.shred.proofs.TurnLemmas.{Means, left-means, right-means, system-means, means-within, OneTurn, turn-of-one, TurnsThenLocals, dispatch-turns, no-local, one-local}
