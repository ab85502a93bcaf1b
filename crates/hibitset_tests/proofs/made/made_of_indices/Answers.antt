use Rattle.std.proofs.Common.{ℕ, refl, sym, ap, subst, arith}
use Rattle.std.specs.List.{All}
use Rattle.std.specs.declared.ops.Range.{Range}
use Rattle.hibitset_sets.specs.Extend.{IsIndex}
use Rattle.hibitset_sets.proofs.CallerLemmas.{refs-yielded}
use Rattle.hibitset_tests.proofs.Lists.{nine-three, range-yielded}
use Rattle.hibitset_tests.proofs.made.made_of_indices.Goals as goal

pub from_indices-requires : goal.from_indices-requires
from_indices-requires c it h = (tt, tt, λ xs t y. range-yielded it (omega (arith, ap (λ (r : Range ℕ). r.end) h)) xs t y)

pub extend_indices-requires : goal.extend_indices-requires
extend_indices-requires c it h = (tt, tt, λ xs t y. range-yielded it (omega (arith, ap (λ (r : Range ℕ). r.end) h)) xs t y)

pub extend_indices_by_ref-requires : goal.extend_indices_by_ref-requires
extend_indices_by_ref-requires c κs = ((refl, tt), λ it h. (tt, tt, λ xs t y. refs-yielded it (subst (All IsIndex) (sym h.0) nine-three) xs t y))
