-- A system that writes the parts of one kind, or a global.
use Rattle.std.specs.Prelude.{◌≡◌, true, false, Some, All}
use Rattle.shred_world.specs.declared.resource_id.ResourceId.{ResourceId}
use Rattle.shred_world.specs.ResourceIds.{same_id}
use Rattle.shred_world.specs.Bundles.{Holding, readable}
use Rattle.scene_model.specs.Parts.{Name}
use Rattle.scene_model.specs.Scenes.{RefLives}
use Rattle.scene_world.specs.Stored.{Stored, part_under}
use Rattle.scene_world.specs.Rolls.{Roll, ids_in, ref_to}
use Rattle.scene_world.specs.Standing.{Kinds}
use Rattle.scene_world.specs.Turns.{Sense}

-- where the parts of a kind stand is this value after, and all else is as it was
pub record WritesOne {V : Type 0} (kinds : Kinds V) (kind : Name) (value : V) (seen left : Holding V) : Type 0 where
  pub here : readable (left (kinds.part_id kind)) ≡ Some value
  pub others : (id : ResourceId) → same_id id (kinds.part_id kind) ≡ false → left id ≡ seen id

-- where a global stands is this value after, and all else is as it was
pub record WritesGlobal {V : Type 0} (kinds : Kinds V) (name : Name) (value : V) (seen left : Holding V) : Type 0 where
  pub here : readable (left (kinds.global_id name)) ≡ Some value
  pub others : (id : ResourceId) → same_id id (kinds.global_id name) ≡ false → left id ≡ seen id

-- a stored part may stand under a kind: it is of that kind, and names entities that live
pub record MayStand (sense : Sense) (roll : Roll) (kind : Name) (stored : Stored) : Type 0 where
  pub admitted : sense.admits kind (part_under (ref_to roll) stored) ≡ true
  pub living : All (RefLives (ids_in roll)) (part_under (ref_to roll) stored).refs
