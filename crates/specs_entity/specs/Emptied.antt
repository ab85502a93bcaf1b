-- What is left of a walk over a set out of which each index is taken that came. No public clause cites this file.
use Rattle.std.specs.Prelude.{◌≡◌, ℕ, true, List, ◌∷◌}
use Rattle.std.specs.FinSet as set
use Rattle.std.specs.Ordering.{nat_cmp}
use Rattle.hibitset_sets.specs.Walk.{walk, is_pending}
use Rattle.specs_entity.specs.declared.emptying.Emptying.{Emptying}

-- the indices of a set that the walk has still to come to
abbrev pub still_in : set.FinSet nat_cmp → Emptying → List ℕ
still_in members it = walk (is_pending (set.contains members) it.masks it.prefix)

-- the least index of a set came, and all that the set has without it is still to come
pub record GaveFirst (members : set.FinSet nat_cmp) (first : ℕ) (after : Emptying) : Type 0 where
  pub member : set.contains members first ≡ true
  pub came : walk (set.contains members) ≡ first ∷ walk (set.contains (set.remove members first))
  pub left : still_in (set.remove members first) after ≡ walk (set.contains (set.remove members first))
