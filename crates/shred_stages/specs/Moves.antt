-- Moving values between the slots of two holders.
use Rattle.std.specs.Prelude.{◌≡◌, true, None, Some, IsSome, List, if◌then◌else◌}
use Rattle.std.specs.FinMap as map
use Rattle.shred_world.specs.declared.resource_id.ResourceId.{ResourceId}
use Rattle.shred_world.specs.Worlds.{Slots}
use Rattle.shred_world.specs.Bundles.{Slot, absent, out, shared, owned, Holding, takable, is_listed}

-- a slot from which the value was taken that may be
abbrev pub emptied : {V : Type 0} → Slot V → Slot V
emptied absent = absent
emptied out = out
emptied (shared v) = shared v
emptied (owned v) = out

-- a slot with the value that may be taken from another, if there is one
abbrev pub filled : {V : Type 0} → (from to : Slot V) → Slot V
filled absent to = to
filled out to = to
filled (shared v) to = to
filled (owned v) to = owned v

-- what is left of a slot of the holder from which the values of some ids are moved
abbrev pub left_of : {V : Type 0} → List ResourceId → Holding V → Holding V
left_of ids from id = if is_listed ids id then emptied (from id) else from id

-- what a slot of the holder has to which they are moved
abbrev pub moved_to : {V : Type 0} → List ResourceId → (from to : Holding V) → Holding V
moved_to ids from to id = if is_listed ids id then filled (from id) (to id) else to id

-- each value that is to be moved finds an empty slot
abbrev pub HasSlots : {V : Type 0} → List ResourceId → (from to : Holding V) → Type 0
HasSlots ids from to = (id : ResourceId) → is_listed ids id ≡ true → IsSome (takable (from id)) → to id ≡ out

-- a seat: an empty slot for each id that a system writes
abbrev pub IsSeat : {V : Type 0} → List ResourceId → Slots V → Type 0
IsSeat writes seat = (id : ResourceId) → map.get seat id ≡ (if is_listed writes id then Some None else None)
