-- What a save of all that are reached keeps. No public clause cites it.
use Rattle.std.specs.Prelude.{◌≡◌, ◌<◌, ℕ, nat_eq, true, List, length, map, slice_get, Option, Some}
use Rattle.std.specs.List.{IsDistinct}
use Rattle.specs_entity.specs.Births.{Births, IsAlive}
use Rattle.specs_entity.specs.Life.{LifeAt}
use Rattle.specs_saveload.specs.Bearing.{IsAmong}
use Rattle.specs_saveload.specs.Reached.{Order, IsReached, IsOrder}

-- an entity is alive, and its index has a marker
abbrev pub IsReady : Births → Order → LifeAt → Type 0
IsReady births order entity = IsAlive births entity × (order.marked entity.id ≡ true)

-- those to be saved are alive and marked, and none is twice among them
pub record IsSafe (births : Births) (order : Order) : Type 0 where
  pub apart : IsDistinct nat_eq (map (λ (entity : LifeAt). entity.id) order.entities)
  pub ready : (entity : LifeAt) → IsAmong entity order.entities → IsReady births order entity

-- those that the parts of the ones before a place name are alive and marked
abbrev pub AreAsked : (names : LifeAt → List LifeAt) → Births → Order → (place : ℕ) → Type 0
AreAsked names births order place = (k : ℕ) (entity named : LifeAt) → k < place → slice_get order.entities k ≡ Some entity → IsAmong named (names entity) → IsReady births order named

-- all that are reached from the first ones, in their order: marked, alive, and none twice
abbrev pub ReachesAll : {M : Type 0} → (names : LifeAt → List LifeAt) → Births → (first : Order) → (markers : ℕ → Option M) → List LifeAt → Type 0
ReachesAll names births first markers list =
    (order : Order) × IsReached names first order (length order.entities) × IsOrder order markers list × IsSafe births order × AreAsked names births order (length order.entities)
