-- Storages without parts that are put into a world.
use Rattle.std.specs.Prelude.{◌≡◌, Some}
use Rattle.std.specs.FinMap as slots
use Rattle.shred_world.specs.declared.resource_id.ResourceId.{ResourceId}
use Rattle.shred_world.specs.Worlds.{Slots}
use Rattle.specs_layouts.specs.Parts.{HasNone}
use Rattle.scene_basics.specs.declared.values.Value.{Value}
use Rattle.scene_basics.specs.declared.values.Value.TheVariants.{NumbersValue, OwnersValue}
use Rattle.scene_basics.specs.Values.{Numbers, Owners, whole_at, owner_at}

-- numbers of which there is none stand at an id, and at each other id what was there
pub record HasNumbers (id : ResourceId) (w later : Slots Value) : Type 0 where
  pub numbers : Numbers
  pub none : HasNone (whole_at numbers)
  pub put : later ≡ slots.insert w id (Some (NumbersValue numbers))

-- so it is of references to owners
pub record HasOwners (id : ResourceId) (w later : Slots Value) : Type 0 where
  pub owners : Owners
  pub none : HasNone (owner_at owners)
  pub put : later ≡ slots.insert w id (Some (OwnersValue owners))
