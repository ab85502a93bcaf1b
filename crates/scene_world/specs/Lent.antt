-- Where the values of a scene stand, and what a system that declares some of them is lent.
use Rattle.std.specs.Prelude.{◌≡◌, ◌≢◌, ℕ, ◌==◌, Bool, true, false, List, ◌∷◌, ◌++◌, map, All}
use Rattle.std.specs.Str.{bytes_eq}
use Rattle.shred_world.specs.declared.resource_id.ResourceId.{ResourceId}
use Rattle.shred_world.specs.ResourceIds.{same_id}
use Rattle.shred_world.specs.Bundles.{is_listed}
use Rattle.scene_model.specs.Parts.{Name, is_among}
use Rattle.scene_model.specs.Rulebook.{Access}
use Rattle.scene_world.specs.Standing.{Kinds}

-- what stands in a world of a scene
pub data Place : Type 0 where
  entities : Place
  markers : Place
  allocator : Place
  parts : Name → Place
  value : Name → Place
  queue : ℕ → Place

abbrev pub same_place : Place → Place → Bool
same_place entities entities = true
same_place markers markers = true
same_place allocator allocator = true
same_place (parts one) (parts other) = bytes_eq one other
same_place (value one) (value other) = bytes_eq one other
same_place (queue one) (queue other) = one == other
same_place one other = false

-- the places that a system at a position reads and writes, by what it declares
abbrev pub read_places : Access → List Place
read_places access = entities ∷ markers ∷ allocator ∷ (map parts access.reads ++ map value access.read_globals)

abbrev pub written_places : Access → ℕ → List Place
written_places access position = queue position ∷ (map parts access.writes ++ map value access.written_globals)

module _ {V : Type 0} (kinds : Kinds V) where
  -- the id of a place
  abbrev pub id_of_place : Place → ResourceId
  id_of_place entities = kinds.entities_id
  id_of_place markers = kinds.markers_id
  id_of_place allocator = kinds.allocator_id
  id_of_place (parts kind) = kinds.part_id kind
  id_of_place (value name) = kinds.global_id name
  id_of_place (queue position) = kinds.queue_id position

  -- the rules know the kind, or the global
  abbrev pub is_known : Place → Bool
  is_known entities = true
  is_known markers = true
  is_known allocator = true
  is_known (parts kind) = is_among kind kinds.part_names
  is_known (value name) = is_among name kinds.global_names
  is_known (queue position) = true

  -- no two of them stand under one id
  abbrev pub StandApart : Type 0
  StandApart = (one other : Place) → is_known one ≡ true → is_known other ≡ true → same_id (id_of_place one) (id_of_place other) ≡ same_place one other

  -- the rules know what is declared
  pub record AreKnown (access : Access) : Type 0 where
    pub reads : All (λ kind. is_among kind kinds.part_names ≡ true) access.reads
    pub writes : All (λ kind. is_among kind kinds.part_names ≡ true) access.writes
    pub read_globals : All (λ name. is_among name kinds.global_names ≡ true) access.read_globals
    pub written_globals : All (λ name. is_among name kinds.global_names ≡ true) access.written_globals

  -- the ids that a system at a position reads and writes are those of what it declares, and of its queue
  pub record IsLent (access : Access) (position : ℕ) (reads writes : List ResourceId) : Type 0 where
    pub entities : is_listed reads kinds.entities_id ≡ true
    pub markers : is_listed reads kinds.markers_id ≡ true
    pub allocator : is_listed reads kinds.allocator_id ≡ true
    pub same_entities : is_listed writes kinds.entities_id ≡ false
    pub same_markers : is_listed writes kinds.markers_id ≡ false
    pub same_allocator : is_listed writes kinds.allocator_id ≡ false
    pub reads_parts : (kind : Name) → is_among kind kinds.part_names ≡ true → is_listed reads (kinds.part_id kind) ≡ is_among kind access.reads
    pub writes_parts : (kind : Name) → is_among kind kinds.part_names ≡ true → is_listed writes (kinds.part_id kind) ≡ is_among kind access.writes
    pub reads_globals : (name : Name) → is_among name kinds.global_names ≡ true → is_listed reads (kinds.global_id name) ≡ is_among name access.read_globals
    pub writes_globals : (name : Name) → is_among name kinds.global_names ≡ true → is_listed writes (kinds.global_id name) ≡ is_among name access.written_globals
    pub queue : is_listed writes (kinds.queue_id position) ≡ true
    pub other_queues : (other : ℕ) → other ≢ position → is_listed writes (kinds.queue_id other) ≡ false
