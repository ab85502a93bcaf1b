use Rattle.std.proofs.Common.{refl, sym, subst}
use Rattle.std.specs.List.{All}
use Rattle.hibitset_sets.specs.Extend.{IsIndex}
use Rattle.hibitset_sets.proofs.CallerLemmas.{refs-yielded}
use Rattle.hibitset_tests.proofs.Lists.{nine-three}
use Rattle.hibitset_tests.proofs.made.made_of_lists.Goals as goal

pub from_indices_by_ref-requires : goal.from_indices_by_ref-requires
from_indices_by_ref-requires c κs = ((refl, tt), λ it h. (tt, tt, λ xs t y. refs-yielded it (subst (All IsIndex) (sym h.0) nine-three) xs t y))
