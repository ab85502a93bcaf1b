-- What changes in one place of a world, while all else is as it was.
use Rattle.std.specs.Prelude.{◌≡◌, ℕ, true, false, Option, IsSome, option_and_then}
use Rattle.shred_world.specs.declared.resource_id.ResourceId.{ResourceId}
use Rattle.shred_world.specs.ResourceIds.{same_id}
use Rattle.specs_entity.specs.Life.{LifeAt}
use Rattle.specs_markers.specs.Simple.{allocated, given_id}
use Rattle.scene_model.specs.Parts.{Name, is_among}
use Rattle.scene_world.specs.Standing.{Sight, Kinds, roll_of}
use Rattle.scene_world.specs.Changes.{but_at}
use Rattle.scene_world.specs.Telling.{ShowsMarkers}

-- every value but one is as it was
abbrev pub StaysBut : {V : Type 0} → ResourceId → Sight V → Sight V → Type 0
StaysBut place w later = (id : ResourceId) → same_id id place ≡ false → later id ≡ w id

module _ {V : Type 0} (kinds : Kinds V) where
  -- every value but the parts is as it was
  abbrev pub StaysButParts : Sight V → Sight V → Type 0
  StaysButParts w later = (id : ResourceId) → ((kind : Name) → is_among kind kinds.part_names ≡ true → same_id id (kinds.part_id kind) ≡ false) → later id ≡ w id

  -- an index is marked with an id, or its marker is taken out, which the markers' events show
  pub record SetsMark (index : ℕ) (given : Option ℕ) (w later : Sight V) : Type 0 where
    pub marker : (at : ℕ) → (roll_of kinds later).marker at ≡ but_at index given (roll_of kinds w).marker at
    pub there : IsSome (later kinds.markers_id)
    pub shown : ShowsMarkers kinds w later
    pub others : StaysBut kinds.markers_id w later

  -- an entity is noted under the id that is asked for, else under the one that comes next
  pub record Notes (entity : LifeAt) (asked : Option ℕ) (given : ℕ) (w later : Sight V) : Type 0 where
    pub id : given ≡ given_id (roll_of kinds w).noting asked
    pub noting : (roll_of kinds later).noting ≡ allocated (roll_of kinds w).noting entity asked
    pub there : IsSome (option_and_then kinds.noting (later kinds.allocator_id))
    pub others : StaysBut kinds.allocator_id w later
