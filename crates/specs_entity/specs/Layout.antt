-- What the vectors and sets of `EntitiesRes` keep to. No public clause cites this file.
use Rattle.std.specs.Prelude.{◌≡◌, ℕ, ◌<◌, ◌≤◌, true, false, List, length, Some, None, ◌==◌}
use Rattle.std.specs.List.{IsDistinct, list_any}
use Rattle.std.specs.FinSet as set
use Rattle.std.specs.Vec.{vec_capacity}
use Rattle.specs_entity.specs.Life.{Life, LifeAt}
use Rattle.specs_entity.specs.Births.{Births, persistent_at, living, MarksLiving, count, alive_of, number_of, created, all_created, newborns, next_index, CanCreate, IndicesAreSpent, GenerationsAreSpent}
use Rattle.specs_entity.specs.declared.entities_res.EntitiesRes.TheInside.{Inside}

-- indices and numbers are within the limits, a fresh birth is at an index whose last persistent one is dead, and a cached index is used, had a birth, stands in the cache once, and has nobody alive
pub record AreBirths (births : Births) : Type 0 where
  pub used : length births.persistent ≤ births.indices
  pub indices : births.indices ≤ 16777216
  pub generations : births.generations ≤ 2147483647
  pub numbered : (index : ℕ) (life : Life) → persistent_at births index ≡ Some life → 0 < life.number
  pub counted : (index : ℕ) → count births index ≤ births.generations
  pub fresh_used : (index : ℕ) → set.contains births.fresh index ≡ true → index < length births.persistent
  pub fresh_dead : (index : ℕ) → set.contains births.fresh index ≡ true → alive_of (persistent_at births index) ≡ None
  pub deletions : (index : ℕ) → set.contains births.deletions index ≡ true → ¬ (living births index ≡ None)
  pub cached_used : (index : ℕ) → list_any (λ other. index == other) births.cache ≡ true → index < length births.persistent
  pub cached_born : (index : ℕ) → list_any (λ other. index == other) births.cache ≡ true → 0 < number_of (persistent_at births index)
  pub cached_dead : (index : ℕ) → list_any (λ other. index == other) births.cache ≡ true → living births index ≡ None
  pub distinct : IsDistinct (λ one other. one == other) births.cache

-- an index that was taken for a birth: it is in use, nobody lives there, and it isn't in the cache
pub record IsFree (births : Births) (index : ℕ) : Type 0 where
  pub used : index < length births.persistent
  pub dead : living births index ≡ None
  pub uncached : list_any (λ other. index == other) births.cache ≡ false

-- what happened to the entities, as the fields tell it
abbrev pub births_of : Inside → Births
births_of a =
    record {
      persistent = a.generations.items;
      fresh = a.raised.members;
      deletions = a.killed.members;
      cache = a.cache.items;
      indices = a.indices;
      generations = a.highest;
    }

-- there is room up to one number for each index in use, nothing is marked between two calls, and a set has the indices where an entity lives
pub record IsKept (a : Inside) : Type 0 where
  pub births : AreBirths (births_of a)
  pub used : length a.generations.items ≤ a.room
  pub generations : a.room ≤ vec_capacity a.generations
  pub raised : a.room ≤ a.raised.room
  pub killed : a.room ≤ a.killed.room
  pub marked : a.room ≤ a.marked.room
  pub cache : a.room ≤ vec_capacity a.cache
  pub unmarked : a.marked.members ≡ set.empty
  pub alive_room : a.room ≤ a.alive.room
  pub alive : MarksLiving a.alive.members (births_of a)

-- a birth by `create` led from one state to another, and gave that index
pub record IsCreated (before : Births) (given : ℕ) (after : Births) : Type 0 where
  pub kept : AreBirths before
  pub left : ¬ (IndicesAreSpent before)
  pub room : ¬ (GenerationsAreSpent before)
  pub run : after ≡ created before
  pub named : given ≡ next_index before

-- births by `create` led from one state to another, and gave those entities
pub record AreMade (before : Births) (entities : List LifeAt) (after : Births) : Type 0 where
  pub kept : AreBirths before
  pub can : CanCreate (length entities) before
  pub run : after ≡ all_created (length entities) before
  pub made : entities ≡ newborns (length entities) before
