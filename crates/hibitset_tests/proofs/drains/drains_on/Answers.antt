use Rattle.std.proofs.Common.{[], ◌∷◌}
use Rattle.hibitset_sets.proofs.CallerLemmas.{placed-start}
use Rattle.hibitset_tests.proofs.Masks.{none-left}
use Rattle.hibitset_tests.proofs.drains.drains_on.Goals as goal

pub new-drain-requires : goal.new-drain-requires
new-drain-requires c = placed-start (32 ∷ 0 ∷ 0 ∷ 0 ∷ []) none-left
