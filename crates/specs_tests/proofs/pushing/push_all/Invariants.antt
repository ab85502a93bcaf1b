use Rattle.std.proofs.Common.{◌≡◌, ℕ, length, IsSome}
use Rattle.hibitset_sets.specs.BitSet.{has_member}
use Rattle.specs_layouts.specs.Dense.{dense_part}
use Rattle.specs_layouts.specs.ToCome.{IsToCome}
use Rattle.specs_join.specs.Steps.{still_shared}
use Rattle.specs_join.proofs.ChangeEachLemmas.{IsUnderWay}
use Rattle.specs_tests.specs.Drifts.{pushed, slowed}
use Rattle.specs_tests.proofs.pushing.push_all.Given as goal

abbrev pub invariant-loop-index : goal.invariant-loop-index
invariant-loop-index l =
    record {
      places_mask : l.places.mask ≡ l.initial.places.mask;
      drifts_mask : l.drifts.mask ≡ l.initial.drifts.mask;
      both : (index : ℕ) → IsToCome index (still_shared has_member l.places.mask l.drifts.mask l.steps) → IsSome (dense_part l.initial.places.inner index) × IsSome (dense_part l.initial.drifts.inner index);
      places : IsUnderWay pushed (dense_part l.initial.places.inner) (dense_part l.initial.drifts.inner) (dense_part l.places.inner) (still_shared has_member l.places.mask l.drifts.mask l.steps);
      drifts : IsUnderWay slowed (dense_part l.initial.drifts.inner) (dense_part l.initial.places.inner) (dense_part l.drifts.inner) (still_shared has_member l.places.mask l.drifts.mask l.steps);
    }

abbrev pub decreases-loop-index : goal.decreases-loop-index
decreases-loop-index l = length (still_shared has_member l.places.mask l.drifts.mask l.steps)
