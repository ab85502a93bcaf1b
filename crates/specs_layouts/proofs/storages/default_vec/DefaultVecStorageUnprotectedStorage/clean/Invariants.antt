use Rattle.std.proofs.Common.{◌≡◌, ℕ, ◌⊎◌, length, IsSome, IfSome}
use Rattle.std.specs.List.{slice_get}
use Rattle.hibitset_sets.specs.Iter.{left_of}
use Rattle.specs_layouts.specs.Defaults.{filled_part}
use Rattle.specs_layouts.specs.ToCome.{IsToCome}
use Rattle.specs_layouts.proofs.storages.default_vec.DefaultVecStorageUnprotectedStorage.clean.Given as goal

abbrev pub invariant-loop-id : goal.invariant-loop-id
invariant-loop-id g l =
    record {
      come : (index : ℕ) → IsSome (filled_part l.self index) → IsToCome index (left_of g.B.BitSetLike.members l.left);
      len : length l.self.values ≡ length l.initial.self.values;
      each : (index : ℕ) → IsSome (filled_part l.initial.self index) → IsSome (filled_part l.self index) ⊎ IfSome (slice_get l.self.values index) g.T.Default.is_default;
    }

abbrev pub decreases-loop-id : goal.decreases-loop-id
decreases-loop-id g l = length (left_of g.B.BitSetLike.members l.left)
