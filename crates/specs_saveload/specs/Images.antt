-- What a world is after a list of data was loaded into an empty one.
use Rattle.std.specs.Prelude.{◌≡◌, ◌≢◌, ℕ, List, Option, Some, None, IsSome}
use Rattle.specs_entity.specs.Births.{Births, IsAlive}
use Rattle.specs_entity.specs.Life.{LifeAt}
use Rattle.specs_saveload.specs.declared.entity_data.EntityData.{EntityData}
use Rattle.specs_saveload.specs.Bearing.{IsAmong}
use Rattle.specs_saveload.specs.Saved.{name_of}

-- each marker that stands in the data of an entry is that of an entry
abbrev pub NamesOwn : {M D : Type 0} → (D → List M) → List (EntityData M D) → Type 0
NamesOwn {M} {D} markers_of list =
    (entry : EntityData M D) (marker : M) → IsAmong entry list → IsAmong marker (markers_of entry.components) → (owner : EntityData M D) × IsAmong owner list × (owner.marker ≡ marker)

-- no two living entities bear one marker
abbrev pub MarkersDiffer : {M : Type 0} → Births → (ℕ → Option M) → Type 0
MarkersDiffer {M} births markers =
    (one other : LifeAt) (marker : M) → IsAlive births one → IsAlive births other → markers one.id ≡ Some marker → markers other.id ≡ Some marker → one ≡ other

-- the parts of a living marked entity name an entity that isn't alive or has no marker
pub record NamesUnmarked {M P : Type 0} (refers_to : P → List LifeAt) (parts_at : ℕ → P) (births : Births) (markers : ℕ → Option M) : Type 0 where
  pub entity : LifeAt
  pub alive : IsAlive births entity
  pub marked : IsSome (markers entity.id)
  pub named : LifeAt
  pub refers : IsAmong named (refers_to (parts_at entity.id))
  pub unmarked : name_of births markers named ≡ None

module _ {M D P : Type 0} (load : (M → Option LifeAt) → D → Option P) (list : List (EntityData M D)) (births : Births) (markers : ℕ → Option M) (bearers : M → Option LifeAt) (had has : ℕ → P) where
  -- an entity is alive, bears the marker of an entry and is known by it, and has just the parts of its data
  pub record IsImageOf (entry : EntityData M D) (entity : LifeAt) : Type 0 where
    pub alive : IsAlive births entity
    pub marked : markers entity.id ≡ Some entry.marker
    pub bears : bearers entry.marker ≡ Some entity
    pub parts : load bearers entry.components ≡ Some (has entity.id)

  -- there is an entity for each entry, and no other; each marker stands for the entity that bears it; and other indices have what they had
  pub record IsImage : Type 0 where
    pub each : (entry : EntityData M D) → IsAmong entry list → (entity : LifeAt) × IsImageOf entry entity
    pub no_other : (entity : LifeAt) → IsAlive births entity → (entry : EntityData M D) × IsAmong entry list × IsImageOf entry entity
    pub stands : (marker : M) (entity : LifeAt) → bearers marker ≡ Some entity → IsAlive births entity × (markers entity.id ≡ Some marker)
    pub others : (index : ℕ) → ((entity : LifeAt) → IsAlive births entity → index ≢ entity.id) → has index ≡ had index
