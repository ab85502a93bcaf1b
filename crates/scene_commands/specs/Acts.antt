-- A command that is carried out in a world in which a scene stands.
use Rattle.std.specs.Prelude.{◌≡◌, ◌<◌, ◌≤◌, ℕ, ◌&&◌, Bool, true, false, List, Option, Some, None, IsSome, is_some, All, map, option_and_then, if◌then◌else◌}
use Rattle.std.specs.List.{list_all}
use Rattle.shred_world.specs.declared.resource_id.ResourceId.{ResourceId}
use Rattle.shred_world.specs.ResourceIds.{same_id}
use Rattle.shred_world.specs.Worlds.{Slots}
use Rattle.shred_world.specs.Bundles.{holding_of}
use Rattle.specs_entity.specs.Births.{Births, count, living}
use Rattle.specs_entity.specs.Life.{LifeAt}
use Rattle.specs_markers.specs.Simple.{noted_under}
use Rattle.scene_model.specs.Parts.{Name, Part, is_among}
use Rattle.scene_model.specs.Rulebook.{Command}
use Rattle.scene_model.specs.Commands.{apply, changed, skipped}
use Rattle.scene_world.specs.Stored.{Stored}
use Rattle.scene_world.specs.Rolls.{Roll, IsRoll, is_life, is_id, ids_in}
use Rattle.scene_world.specs.Standing.{Sight, Kinds, seen_in, roll_of, column_of, owning_in, plain_of, IsWithin}
use Rattle.scene_world.specs.Changes.{but_at}
use Rattle.scene_world.specs.Telling.{ShowsKind, ShowsWorld}
use Rattle.scene_world.specs.Ages.{Ages}
use Rattle.scene_world.specs.Putting.{StoresAs}
use Rattle.scene_commands.specs.Bounds.{GrowsByIds}

-- an entity was born: its life is one of those that its index has had
abbrev pub WasBorn : Births → LifeAt → Type 0
WasBorn births entity = entity.generation.number ≤ count births entity.id

-- what can be read at each id of a world
abbrev pub seen_of : {V : Type 0} → Slots V → Sight V
seen_of w = seen_in (holding_of w)

-- the entity that is known under an id: it is noted under it, is alive, and is marked with it
abbrev pub entity_under : Roll → ℕ → Option LifeAt
entity_under roll id = option_and_then (λ entity. if is_life entity.generation (living roll.births entity.id) && is_id id (roll.marker entity.id) then Some entity else None) (noted_under roll.noting id)

-- what was found under ids: the entities that are known under them, or that under one there is none
abbrev pub AreUnder : Roll → List ℕ → Option (List LifeAt) → Type 0
AreUnder roll ids None = list_all (λ id. is_some (entity_under roll id)) ids ≡ false
AreUnder roll ids (Some entities) = map (entity_under roll) ids ≡ map (λ entity. Some entity) entities

module _ {V : Type 0} (kinds : Kinds V) where
  -- the column of a kind stores something else at one index, or nothing any more, which its events show, and at each other id of the world
  -- is what was there
  pub record SetsColumn (kind : Name) (index : ℕ) (part : Option Stored) (w later : Sight V) : Type 0 where
    pub here : (at : ℕ) → column_of kinds later kind at ≡ but_at index part (column_of kinds w kind) at
    pub others : (id : ResourceId) → same_id id (kinds.part_id kind) ≡ false → later id ≡ w id
    pub shown : ShowsKind kinds kind w later

  -- a part is stored at an index, where its references are to these entities
  pub record PutsPart (kind : Name) (index : ℕ) (part : Part) (named : List LifeAt) (w later : Sight V) : Type 0 where
    pub one : Stored
    pub is : StoresAs part named one
    pub sets : SetsColumn kind index (Some one) w later

  -- each entity that a part names was born, so that no part names one that will be
  abbrev pub NamesBorn : Sight V → Type 0
  NamesBorn w = (kind : Name) → is_among kind kinds.part_names ≡ true → (index : ℕ) (stored : Stored) → column_of kinds w kind index ≡ Some stored → All (WasBorn (roll_of kinds w).births) stored.named

  -- a world in which commands may be carried out: a scene stands in it, but for references that may be gone
  pub record MayAct (w : Slots V) : Type 0 where
    pub entities : IsSome (option_and_then kinds.births (seen_of w kinds.entities_id))
    pub markers : IsSome (seen_of w kinds.markers_id)
    pub allocator : IsSome (option_and_then kinds.noting (seen_of w kinds.allocator_id))
    pub roll : IsRoll (roll_of kinds (seen_of w))
    pub below : All (λ id. id < (roll_of kinds (seen_of w)).noting.next) (ids_in (roll_of kinds (seen_of w)))
    pub within : (kind : Name) → is_among kind kinds.part_names ≡ true → IsWithin kinds (roll_of kinds (seen_of w)) (column_of kinds (seen_of w) kind)
    pub born : NamesBorn (seen_of w)

  -- where neither the entities nor their markers, the allocator or the parts of a kind stand, is what was there
  abbrev pub StaysElsewhere : (w later : Slots V) → Type 0
  StaysElsewhere w later = (id : ResourceId) → same_id id kinds.entities_id ≡ false → same_id id kinds.markers_id ≡ false → same_id id kinds.allocator_id ≡ false
      → ((kind : Name) → is_among kind kinds.part_names ≡ true → same_id id (kinds.part_id kind) ≡ false) → seen_of later id ≡ seen_of w id

  -- a command was carried out: the scene that stands in the world is the one that it makes; or it was skipped, and the world is as it was
  abbrev pub Acts : Command → Bool → (w later : Slots V) → Type 0
  Acts command true w later = apply (owning_in kinds) command (plain_of kinds (seen_of w)) ≡ changed (plain_of kinds (seen_of later))
  Acts command false w later = (apply (owning_in kinds) command (plain_of kinds (seen_of w)) ≡ skipped) × (later ≡ w)

  -- the events of a world show what became of its markers and parts, time went on, and the entities stay under their bounds
  pub record GoesOn (w later : Slots V) : Type 0 where
    pub shown : ShowsWorld kinds (seen_of w) (seen_of later)
    pub ages : Ages (roll_of kinds (seen_of w)) (roll_of kinds (seen_of later))
    pub grows : GrowsByIds (roll_of kinds (seen_of w)) (roll_of kinds (seen_of later))
