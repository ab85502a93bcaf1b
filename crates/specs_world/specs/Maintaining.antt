-- Worlds that are maintained, and worlds with queues.
use Rattle.std.specs.Prelude.{◌≡◌, ◌⊎◌, ℕ, Option, Some, List, [], Result, Err}
use Rattle.std.specs.FinMap as map
use Rattle.shred_world.specs.Worlds.{Slots}
use Rattle.specs_entity.specs.Births.{Births, none_born}
use Rattle.specs_entity.specs.declared.ids.Entity.{Entity}
use Rattle.specs_entity.specs.declared.errors.Error.{Error}
use Rattle.specs_world.specs.Resources.{Place}
use Rattle.specs_world.specs.Dropping.{MergesIn, RefusesMerge, Rests}
use Rattle.specs_world.specs.declared.maintained.Maintained.{Maintained}
use Rattle.specs_world.specs.Queues.{JobsRun, none_ran}

-- births were merged and the dead dropped, and then jobs ran; or the merge was refused, and parts and births are as they were
abbrev pub Maintains : {V J S : Type 0} → Place V Births → Place V (List ℕ) → (V → List ℕ → V → Type 0) → (J → Option Error → Slots V → Slots V → Type 0) → Place V (List J) → Place V S → (limit : ℕ) → (before : Slots V) → Result Maintained Error → (after : Slots V) → Type 0
Maintains {V} births_at table_at drops runs at shared limit before result after =
    ((deleted : List Entity) × (merged : Slots V) × MergesIn births_at table_at drops deleted before merged × JobsRun runs at shared limit none_ran merged result after)
    ⊎ ((error : Error) × (result ≡ Err error) × RefusesMerge births_at table_at before error × Rests drops before after)

-- a world without entities in which no kind is registered
abbrev pub without_entities : {V : Type 0} → Place V Births → Place V (List ℕ) → Slots V
without_entities births_at table_at = map.insert (map.insert map.empty births_at.id (Some (births_at.wrapped (none_born 16777216 2147483647)))) table_at.id (Some (table_at.wrapped []))

-- a queue without jobs was put under the number 0
abbrev pub HasQueue : {V J : Type 0} → Place V (List J) → Slots V → Slots V → Type 0
HasQueue at before after = after ≡ map.insert before at.id (Some (at.wrapped []))

-- a shared queue was put in
abbrev pub HasShared : {V S : Type 0} → Place V S → Slots V → Slots V → Type 0
HasShared {S = S} at before after = (shared : S) × (after ≡ map.insert before at.id (Some (at.wrapped shared)))

-- both were put in
abbrev pub HasQueues : {V J S : Type 0} → Place V (List J) → Place V S → Slots V → Slots V → Type 0
HasQueues {S = S} at shared_at before after = (shared : S) × (after ≡ map.insert (map.insert before at.id (Some (at.wrapped []))) shared_at.id (Some (shared_at.wrapped shared)))
