use Rattle.std.proofs.Common.{None}
use Rattle.specs_join.specs.Changes.{change_at}
use Rattle.specs_join.proofs.ChangeLemmas.{all-from, refused-with}
use Rattle.specs_join.proofs.changeset.ChangeSet.from_pairs.Goals as goal

pub returns-in_err-extend_pairs : goal.returns-in_err-extend_pairs
returns-in_err-extend_pairs g c =
    let (start, given, becomes, added, stops) = c.in_err-extend_pairs.ensures in (
      start,
      given,
      becomes,
      refused-with _ _ c.from_residual.result c.in_err-extend_pairs.field-0.0 c.from_residual.ensures
          (change_at c.extend_pairs.new.self, all-from g.T.Accumulate.sum g.T.Accumulate.fits (λ _. None) (change_at c.new-changes.result) (change_at c.extend_pairs.new.self) given c.new-changes.ensures added, stops),
    )

pub returns : goal.returns
returns g c =
    let (start, given, becomes, added, drains) = c.in_ok-extend_pairs.ensures in
    (start, given, becomes, (drains, all-from g.T.Accumulate.sum g.T.Accumulate.fits (λ _. None) (change_at c.new-changes.result) (change_at c.extend_pairs.new.self) given c.new-changes.ensures added))
