-- What the two passes of a load leave: first the entities of the entries' markers, then their parts. No public clause cites it.
use Rattle.std.specs.Prelude.{◌≡◌, ◌≢◌, ◌⊎◌, ◌+◌, ◌<◌, ℕ, [], List, length, take, Option, Some}
use Rattle.std.specs.List.{AllZip}
use Rattle.specs_entity.specs.Births.{IsAlive}
use Rattle.specs_entity.specs.Life.{LifeAt}
use Rattle.specs_saveload.specs.declared.entity_data.EntityData.{EntityData}
use Rattle.specs_saveload.specs.Bearing.{GoesOn, IsAmong}
use Rattle.specs_saveload.specs.Known.{IsSound, Known, LivesIn, bearer_at}
use Rattle.specs_saveload.specs.Loading.{AreApart, AreInOrder, GivesEach, IsLoaded, RefusesParts, StandsIn}

-- the marker of each entry of a list has its bearer, and those of different markers are at different indices
pub record AreFound {M D : Type 0} (bearers : M → Option LifeAt) (list : List (EntityData M D)) : Type 0 where
  pub found : (entry : EntityData M D) → IsAmong entry list → (entity : LifeAt) × (bearers entry.marker ≡ Some entity)
  pub spread : (one other : EntityData M D) (entity entity' : LifeAt) → IsAmong one list → IsAmong other list → one.marker ≢ other.marker → bearers one.marker ≡ Some entity → bearers other.marker ≡ Some entity' → entity.id ≢ entity'.id

-- entities bear the markers of a list's entries, one by one
pub record AreBearers {M D : Type 0} (bearers : M → Option LifeAt) (list : List (EntityData M D)) (found : List LifeAt) : Type 0 where
  pub each : AllZip (λ entry entity. bearers entry.marker ≡ Some entity) list found

module _ {A S M I D : Type 0} (noted : A → I → Option LifeAt) (part_at : S → ℕ → Option M) (id_of : M → I) (list : List (EntityData M D)) (before after : Known A S) where
  -- the marker of each entry has its bearer, and none but these began to live, one after the other
  pub record Finds : Type 0 where
    pub keeps : GoesOn (bearer_at noted part_at id_of) LivesIn before after
    pub sound : IsSound noted part_at id_of before → IsSound noted part_at id_of after
    pub found : (entry : EntityData M D) → IsAmong entry list → (entity : LifeAt) × (bearer_at noted part_at id_of after entry.marker ≡ Some entity)
    pub only : (entity : LifeAt) → IsAlive after.births entity → IsAlive before.births entity ⊎ ((entry : EntityData M D) × IsAmong entry list × (bearer_at noted part_at id_of after entry.marker ≡ Some entity))
    pub in_order : IsSound noted part_at id_of before → AreApart list → before.births.cache ≡ [] → AreInOrder (bearer_at noted part_at id_of after) (IsAlive before.births) list
    pub below : IsSound noted part_at id_of before → AreApart list → before.births.cache ≡ []
        → (after.births.cache ≡ []) × ((entry : EntityData M D) (entity : LifeAt) → IsAmong entry list → bearer_at noted part_at id_of after entry.marker ≡ Some entity → ¬ (IsAlive before.births entity) → entity.id < length after.births.persistent)

  -- so it is of the entries before a place
  pub record FindsBefore (place : ℕ) : Type 0 where
    pub inside : place < length list
    pub keeps : GoesOn (bearer_at noted part_at id_of) LivesIn before after
    pub found : IsSound noted part_at id_of before → AreFound (bearer_at noted part_at id_of after) (take place list)

module _ {A S M I D P : Type 0} (noted : A → I → Option LifeAt) (part_at : S → ℕ → Option M) (id_of : M → I) (markers_of : D → List M) (load : (M → Option LifeAt) → D → Option P) (list : List (EntityData M D)) (before after : Known A S) (had has : ℕ → P) where
  -- each entry whose entity was found is loaded, and nothing else was done
  pub record LoadsFound : Type 0 where
    pub keeps : GoesOn (bearer_at noted part_at id_of) LivesIn before after
    pub sound : IsSound noted part_at id_of before → IsSound noted part_at id_of after
    pub loaded : AreFound (bearer_at noted part_at id_of before) list → AreApart list → (entry : EntityData M D) → IsAmong entry list → IsLoaded load (bearer_at noted part_at id_of after) has entry
    pub only : (entity : LifeAt) → IsAlive after.births entity → IsAlive before.births entity ⊎ ((entry : EntityData M D) × (marker : M) × IsAmong entry list × StandsIn markers_of marker entry × (bearer_at noted part_at id_of after marker ≡ Some entity))
    pub others : (index : ℕ) → ((entry : EntityData M D) (entity : LifeAt) → IsAmong entry list → bearer_at noted part_at id_of after entry.marker ≡ Some entity → index ≢ entity.id) → has index ≡ had index

  -- so it is of the entries before a place
  pub record LoadsFoundBefore (place : ℕ) : Type 0 where
    pub inside : place < length list
    pub keeps : GoesOn (bearer_at noted part_at id_of) LivesIn before after
    pub loaded : AreFound (bearer_at noted part_at id_of before) list → AreApart list → (entry : EntityData M D) → IsAmong entry (take place list) → IsLoaded load (bearer_at noted part_at id_of after) has entry
    pub others : (index : ℕ) → ((entry : EntityData M D) (entity : LifeAt) → IsAmong entry (take (place + 1) list) → bearer_at noted part_at id_of after entry.marker ≡ Some entity → index ≢ entity.id) → has index ≡ had index

-- the entries before a place were given their parts, one after the other, and then those of the one there are refused
pub record GivesThenRefuses {M D P C : Type 0} (load : (M → Option LifeAt) → D → Option P) (gives : ℕ → P → C → C → Type 0) (bearers : M → Option LifeAt) (stops : (M → Option LifeAt) → D → ℕ → C → C → Type 0) (list : List (EntityData M D)) (place : ℕ) (before after : C) : Type 0 where
  pub between : C
  pub each : GivesEach load gives bearers (take place list) before between
  pub refused : RefusesParts load gives bearers stops list place between after
