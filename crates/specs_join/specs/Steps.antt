-- What contracts see of a walk over the indices that two sets share.
use Rattle.std.specs.Prelude.{ℕ, Bool, List}
use Rattle.hibitset_sets.specs.BitSet.{SetWithRoom}
use Rattle.hibitset_sets.specs.Walk.{walk, is_pending}
use Rattle.specs_join.specs.Cursor.{shared}
use Rattle.specs_join.specs.declared.join.shared.SharedSteps.{SharedSteps}

-- the indices that are still to come
abbrev pub still_shared : {M : Type 0} → (M → ℕ → Bool) → SetWithRoom → M → SharedSteps → List ℕ
still_shared members parts mask steps = walk (is_pending (shared members parts mask) steps.masks steps.prefix)
