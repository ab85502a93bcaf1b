-- What writers of programs cite, for crates that stand on this one alone.
pub use Rattle.hibitset_sets.proofs.CallerLemmas.{any-walk, contains-with, filter-none}
pub use Rattle.shred.proofs.CallerLemmas.{accepted-changes, Means, left-means, right-means, system-means, means-within, OneTurn, turn-of-one, TurnsThenLocals, dispatch-turns, no-local, one-local}
pub use Rattle.shred_stages.proofs.CallerLemmas.{leaves-one, lent-owned, lent-read, same-itself, step-lifted, turn-of, turns-in-any-order}
pub use Rattle.shred_world.proofs.BundleLemmas.{with_slot-with_slot}
pub use Rattle.shred_world.proofs.CallerLemmas.{ids_total}
pub use Rattle.specs_entity.proofs.CallerLemmas.{phase_seat_field_sync}
pub use Rattle.specs_join.proofs.CallerLemmas.{walk-is}
pub use Rattle.specs_world.proofs.CallerLemmas.{RanOne, became, became-apart, begun-births, begun-others, begun-table, deleted-others, deleted-parts, dropped-each, none-to-run, one-counted, put-parts, ran-one, ran-unrefused, registered-anew, stands-is}
pub use Rattle.specs.proofs.AcceptLemmas.{Accepting, accepting-start, accepting-next, accepting-end, deletion-asked}
pub use Rattle.specs.proofs.TurnLemmas.{accepted, last-turn, turned, turn-lifted}
