use Rattle.specs.specs.ForStorages.{has_member, left_of}
use Rattle.colony.specs.Systems.{goal_at, has_come, position_at}
use Rattle.specs.proofs.CallerLemmas.{Accepting}
use Rattle.colony.proofs.systems.EndingBundleChangeValueEnded.change.Given as goal

abbrev pub invariant-loop-id : goal.invariant-loop-id
invariant-loop-id g l = Accepting (λ index. has_come (position_at l.places index) (goal_at l.goals index)) l.initial.bundle.0.value l.bundle.0.value (left_of (λ s. has_member s.now) l.id-iterator)
