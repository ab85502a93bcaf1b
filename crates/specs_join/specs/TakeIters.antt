-- What contracts see of a walk that takes changes out.
use Rattle.std.specs.Prelude.{ℕ, Bool, List, Option}
use Rattle.hibitset_sets.specs.declared.bit_set_like.BitSetLike as set_like
use Rattle.hibitset_sets.specs.Iter.{left_of}
use Rattle.specs_join.specs.declared.join.Join as join
use Rattle.specs_join.specs.declared.changeset.taking.TakeIter.{TakeIter}
use Rattle.specs_join.specs.Changes.{changes_in}
use Rattle.specs_join.specs.Taking.{in_both, taken_at}

module _ {T R I H V M : Type 0} {j : join.Ghosts R I H V M} {m : set_like.Ghosts M} where
  -- the changes that are still to come, each beside the join's value
  abbrev pub to_come : {S : Type 0} → (M → ℕ → Bool) → (V → ℕ → Option S) → TakeIter T R I H V M j m → List (T × S)
  to_come members value_at it = taken_at (changes_in it.changes) (value_at it.values) (left_of (in_both members) it.keys)
