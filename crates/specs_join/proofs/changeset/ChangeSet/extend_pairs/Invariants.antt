use Rattle.specs_join.specs.Changes.{change_at, AddsAll}
use Rattle.specs_join.proofs.changeset.ChangeSet.extend_pairs.Given as goal

abbrev pub invariant-loop-entity : goal.invariant-loop-entity
invariant-loop-entity g l = AddsAll g.T.Accumulate.sum g.T.Accumulate.fits (change_at l.fn.self) l.yielded (change_at l.self)
