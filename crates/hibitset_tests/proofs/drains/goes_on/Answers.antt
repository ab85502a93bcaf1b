use Rattle.std.proofs.Common.{[], ◌∷◌}
use Rattle.hibitset_sets.proofs.CallerLemmas.{placed-start}
use Rattle.hibitset_tests.proofs.Masks.{second-left}
use Rattle.hibitset_tests.proofs.drains.goes_on.Goals as goal

pub new-walk-requires : goal.new-walk-requires
new-walk-requires c = placed-start (32 ∷ 2 ∷ 0 ∷ 0 ∷ []) second-left
