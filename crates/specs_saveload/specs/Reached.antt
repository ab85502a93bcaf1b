-- The entities that are saved where each that is named is marked: the marked ones, and wave after wave those that their parts name.
use Rattle.std.specs.Prelude.{◌≡◌, ◌⊎◌, ◌+◌, ◌++◌, ◌||◌, ℕ, nat_eq, Bool, List, [], ◌∷◌, length, map, slice_get, Option, Some, None, is_some, option_and_then, option_map, if◌then◌else◌}
use Rattle.specs_entity.specs.Births.{Births, IsAlive}
use Rattle.specs_entity.specs.Life.{LifeAt}
use Rattle.specs_entity.specs.declared.errors.Error.{Error}
use Rattle.specs_entity.specs.declared.errors.Error.TheVariants as variant
use Rattle.specs_saveload.specs.declared.entity_data.EntityData.{EntityData}
use Rattle.specs_join.specs.Joins.{join_list}
use Rattle.specs_saveload.specs.Bearing.{IsAmong}
use Rattle.specs_saveload.specs.Saved.{marked_at, name_of}

-- which indices have a marker, and the entities to be saved, in their order
pub record Order : Type 0 where
  pub marked : ℕ → Bool
  pub entities : List LifeAt

-- an entity was asked for: where its index has no marker it has one, and is the last to be saved
abbrev pub with_asked : Order → LifeAt → Order
with_asked order entity =
    if order.marked entity.id then order else record { marked = λ index. order.marked index || nat_eq index entity.id; entities = order.entities ++ entity ∷ [] }

-- the entities of a list were asked for, one after the other
abbrev pub with_all_asked : Order → List LifeAt → Order
with_all_asked order [] = order
with_all_asked order (entity ∷ rest) = with_all_asked (with_asked order entity) rest

-- an order is reached, in which all before a place had those asked for that their parts name
pub data IsReached (names : LifeAt → List LifeAt) (first : Order) : Order → ℕ → Type 0 where
  begins : IsReached names first first 0
  goes_on : (order : Order) (place : ℕ) (entity : LifeAt) → IsReached names first order place → slice_get order.entities place ≡ Some entity → IsReached names first (with_all_asked order (names entity)) (place + 1)

-- each index keeps the marker that it had
abbrev pub KeepsMarks : {M : Type 0} → (ℕ → Option M) → (ℕ → Option M) → Type 0
KeepsMarks {M} before after = (index : ℕ) (marker : M) → before index ≡ Some marker → after index ≡ Some marker

-- a list is an order's, and the markers are those that it tells
pub record IsOrder {M : Type 0} (order : Order) (markers : ℕ → Option M) (list : List LifeAt) : Type 0 where
  pub marks : (index : ℕ) → is_some (markers index) ≡ order.marked index
  pub entities : list ≡ order.entities

-- the living marked entities, ascending by index
abbrev pub marked_first : {M : Type 0} → Births → (ℕ → Option M) → Order
marked_first births markers = record { marked = λ index. is_some (markers index); entities = map (λ item. item.0) (join_list (marked_at births markers)) }

-- what is saved of an entity, where it is alive and has a marker and its parts have data
abbrev pub named_entry : {M D P : Type 0} → ((LifeAt → Option M) → P → Option D) → (ℕ → P) → Births → (ℕ → Option M) → LifeAt → Option (EntityData M D)
named_entry plain parts_at births markers entity =
    option_and_then (λ marker. option_map (λ components. record { marker = marker; components = components }) (plain (name_of births markers) (parts_at entity.id))) (name_of births markers entity)

-- those that are reached were asked for in order, up to one that the parts at a place name, of which this is so
pub record StopsAt (names : LifeAt → List LifeAt) (first : Order) (refused : LifeAt → Type 0) : Type 0 where
  pub order : Order
  pub place : ℕ
  pub entity : LifeAt
  pub reached : IsReached names first order place
  pub here : slice_get order.entities place ≡ Some entity
  pub named : LifeAt
  pub among : IsAmong named (names entity)
  pub why : refused named

-- why one that is asked for got no marker: it isn't alive; or it is, and what gives markers refuses one, or there was no memory
abbrev pub RefusesAsked : {A I : Type 0} → (A → Option I → Error → Type 0) → Births → A → LifeAt → Error → Type 0
RefusesAsked refuses births allocator entity error =
    ((error ≡ variant.Unmarked) × ¬ (IsAlive births entity)) ⊎ (IsAlive births entity × (refuses allocator None error ⊎ (error ≡ variant.Memory)))

-- why all that are reached aren't saved: one of them got no marker, or there was no memory
abbrev pub RefusesReached : {A I : Type 0} → (A → Option I → Error → Type 0) → (names : LifeAt → List LifeAt) → (first : Order) → Births → A → Error → Type 0
RefusesReached refuses names first births allocator error = StopsAt names first (λ named. RefusesAsked refuses births allocator named error) ⊎ (error ≡ variant.Memory)
