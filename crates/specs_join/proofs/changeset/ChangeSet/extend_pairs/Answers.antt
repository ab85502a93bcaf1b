use Rattle.specs_join.specs.Changes.{change_at}
use Rattle.specs_join.proofs.ChangeLemmas.{all-last, all-same, refuses-from, refused-with}
use Rattle.specs_join.proofs.changeset.ChangeSet.extend_pairs.Goals as goal

pub loop-entity-preserved : goal.loop-entity-preserved
loop-entity-preserved g c =
    all-last g.T.Accumulate.sum g.T.Accumulate.fits (change_at c.args.self.now) (change_at c.loop-entity.self) (change_at c.add.new.self) c.loop-entity.yielded (c.in-Some.entity, c.in-Some.value) c.loop-entity.invariant c.in_ok-add.ensures.ok

pub returns-in_err-add : goal.returns-in_err-add
returns-in_err-add g c =
    let same = c.in_err-add.ensures.err in (
      c.into_iter-entity-iterator.result,
      c.loop-entity.yielded,
      c.into_iter-entity-iterator.ensures.into_iter_gives,
      all-same g.T.Accumulate.sum g.T.Accumulate.fits (change_at c.args.self.now) (change_at c.loop-entity.self) (change_at c.add.new.self) c.loop-entity.yielded c.loop-entity.invariant same,
      refused-with _ _ c.from_residual.result c.in_err-add.field-0.0 c.from_residual.ensures
          (c.loop-entity.entity-iterator, (c.in-Some.entity, c.in-Some.value), c.next.new.self, c.loop-entity.yielded_by, c.in-Some.ensures.steps, refuses-from g.T.Accumulate.fits (change_at c.loop-entity.self) (change_at c.add.new.self) c.in-Some.entity.id c.in-Some.value c.in_err-add.field-0.0 same c.in_err-add.ensures.refused),
    )
