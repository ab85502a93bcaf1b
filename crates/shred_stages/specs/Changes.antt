-- What is held, with other values at some ids.
use Rattle.std.specs.Prelude.{List, [], ◌∷◌}
use Rattle.shred_world.specs.declared.resource_id.ResourceId.{ResourceId}
use Rattle.shred_world.specs.Bundles.{owned, Holding, with_slot}

-- each of some ids holds a value for taking out, the first of a list last; the other ids are as they were
abbrev pub with_values : {V : Type 0} → List (ResourceId × V) → Holding V → Holding V
with_values [] w = w
with_values (change ∷ earlier) w = with_slot (with_values earlier w) change.0 (owned change.1)
