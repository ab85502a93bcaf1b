-- What a system is lent: the values that it declares alone.
use Rattle.std.specs.Prelude.{◌≡◌, Option, None, Some, List, Result, Ok, Err, if◌then◌else◌, is_some}
use Rattle.std.specs.FinMap as map
use Rattle.shred_world.specs.declared.resource_id.ResourceId.{ResourceId}
use Rattle.shred_world.specs.Worlds.{Slots, value_at}
use Rattle.shred_world.specs.Bundles.{Slot, absent, out, shared, owned, Holding, readable, takable, is_listed}
pub use Rattle.shred_world.specs.Leaving.{IsLeft, Leaves}

-- a value that can be read is lent for reading, where its id is declared
abbrev pub shared_of : {V : Type 0} → Option V → Slot V
shared_of None = absent
shared_of (Some v) = shared v

abbrev pub reading : {V : Type 0} → List ResourceId → Holding V → Holding V
reading reads w id = if is_listed reads id then shared_of (readable (w id)) else absent

-- a value that can be taken out is lent for that
abbrev pub owned_of : {V : Type 0} → Option V → Slot V
owned_of None = out
owned_of (Some v) = owned v

-- what is held, cut to the ids that a system reads and writes
abbrev pub cut : {V : Type 0} → (reads writes : List ResourceId) → Holding V → Holding V
cut reads writes w id = if is_listed writes id then owned_of (takable (w id)) else reading reads w id

-- the slots of a view: the values that were moved into a seat for it, and those that it reads where they are
abbrev pub view_slots : {V : Type 0} → (reads writes : List ResourceId) → Holding V → (seat : Slots V) → Holding V
view_slots reads writes w seat id = if is_listed writes id then owned_of (value_at seat id) else reading reads w id

-- a seat has a slot for each id that is written, and no other
abbrev pub FitsSeat : {V : Type 0} → List ResourceId → Slots V → Type 0
FitsSeat writes seat = (id : ResourceId) → is_some (map.get seat id) ≡ is_listed writes id

-- what is held at an id, once what was taken out comes back
abbrev pub merged : {V : Type 0} → (after before : Slot V) → Slot V
merged absent before = before
merged out before = before
merged (shared v) before = before
merged (owned v) before = owned v

-- why it was refused
abbrev pub error_of : {A E : Type 0} → Result A E → Option E
error_of (Ok a) = None
error_of (Err e) = Some e
