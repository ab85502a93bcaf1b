-- What comes back of what is held: each value that may be taken out, or another in its place.
use Rattle.std.specs.Prelude.{◌≡◌}
use Rattle.shred_world.specs.declared.resource_id.ResourceId.{ResourceId}
use Rattle.shred_world.specs.Bundles.{Slot, absent, out, shared, owned, Holding}

-- a slot that is left as it was, save for the value that may be taken out
abbrev pub IsLeft : {V : Type 0} → (before after : Slot V) → Type 0
IsLeft absent after = after ≡ absent
IsLeft out after = after ≡ out
IsLeft (shared v) after = after ≡ shared v
IsLeft {V} (owned v) after = (left : V) × (after ≡ owned left)

-- the same ids have values, and those that were lent for reading are the same
abbrev pub Leaves : {V : Type 0} → (before after : Holding V) → Type 0
Leaves before after = (id : ResourceId) → IsLeft (before id) (after id)
