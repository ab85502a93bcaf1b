use Rattle.specs.specs.ForStorages.{left_of, has_member}
use Rattle.simulation.specs.Steps.{position_at}
use Rattle.simulation.proofs.ReapingLemmas.{Accepting}
use Rattle.simulation.proofs.reaping.accept_far.Given as goal

abbrev pub invariant-loop-id : goal.invariant-loop-id
invariant-loop-id l = Accepting (position_at l.positions) l.initial.entities l.entities (left_of (λ s. has_member s.now) l.id-iterator)
