-- What a shared world is seen as: the ids that have a cell. What a cell holds is known by its type alone.
use Rattle.std.specs.Prelude.{◌≡◌, Bool, true, is_some}
use Rattle.std.specs.FinMap as map
use Rattle.std.specs.FinMap.{FinMap}
use Rattle.shred_world.specs.declared.resource_id.ResourceId.{ResourceId}
use Rattle.shred_world.specs.ResourceIds.{id_cmp}
use Rattle.shred.specs.declared.cells.fetch_error.FetchError.{FetchError}
use Rattle.shred.specs.declared.cells.fetch_error.FetchError.TheVariants.{Missing, Borrowed}

-- the ids that have a cell
abbrev pub Held : Type 0
Held = FinMap id_cmp (Unit {0})

-- whether the id has a cell
abbrev pub has_id : Held → ResourceId → Bool
has_id held id = is_some (map.get held id)

-- the same with this id
abbrev pub with_id : Held → ResourceId → Held
with_id held id = map.insert held id tt

-- the same without this id
abbrev pub without_id : Held → ResourceId → Held
without_id held id = map.remove held id

-- a resource is missing under this id, or its cell is borrowed, so there is one
abbrev pub IsFetchError : Held → ResourceId → FetchError → Type 0
IsFetchError held id (Missing missing) = missing.id ≡ id
IsFetchError held id (Borrowed refused) = has_id held id ≡ true
