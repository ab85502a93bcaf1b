-- Births of entities: which are born and which of them live, what a call makes of them, and which comes next.
use Rattle.std.specs.Prelude.{◌≡◌, ℕ, zero, suc, ◌+◌, ◌-◌, ◌<◌, ◌≤◌, ◌==◌, ◌⊎◌, Bool, true, false, if◌then◌else◌, List, [], ◌∷◌, ◌++◌, length, take, map, slice_index_or, slice_set, Option, Some, None, is_some, unwrap_or, refl}
use Rattle.std.specs.List.{All, HoldsAt, IsDistinct, list_any}
use Rattle.std.specs.Ordering.{nat_cmp}
use Rattle.std.specs.FinSet as set
use Rattle.hibitset_sets.specs.Walk.{walk}
use Rattle.specs_entity.specs.declared.ids.Entity.{Entity}
use Rattle.specs_entity.specs.declared.errors.WrongGeneration.{WrongGeneration}
use Rattle.specs_entity.specs.declared.errors.Error.{Error}
use Rattle.specs_entity.specs.declared.errors.Error.TheVariants as variant
use Rattle.std.specs.Coded.{Coded, code_by, coded×, coded_ℕ, coded_list, coded_option}
use Rattle.specs_entity.specs.Life.{Life, first_life, life_code}

-- what happened to entities: the last persistent birth of each index that was ever used, the indices with a birth after it that is still fresh, those whose entity's deletion is accepted, the indices in the cache, the last put last, and how many indices and births of one index there may be
pub record Births : Type 0 where
  pub persistent : List (Option Life)
  pub fresh : set.FinSet nat_cmp
  pub deletions : set.FinSet nat_cmp
  pub cache : List ℕ
  pub indices : ℕ
  pub generations : ℕ

-- it is stored as the tuple of its fields
abbrev pub births_code : Coded Births
births_code =
    code_by (List (Option Life) × (set.FinSet nat_cmp × (set.FinSet nat_cmp × (List ℕ × (ℕ × ℕ)))))
    (coded× (coded_list (coded_option life_code)) (coded× (set.code coded_ℕ) (coded× (set.code coded_ℕ) (coded× (coded_list coded_ℕ) (coded× coded_ℕ coded_ℕ)))))
    (λ b. (b.persistent, (b.fresh, (b.deletions, (b.cache, (b.indices, b.generations))))))
    (λ p. record { persistent = p.0; fresh = p.1.0; deletions = p.1.1.0; cache = p.1.1.1.0; indices = p.1.1.1.1.0; generations = p.1.1.1.1.1 })
    (λ _. refl)

-- the number of a last birth, 0 where there is none
abbrev pub number_of : Option Life → ℕ
number_of None = 0
number_of (Some life) = life.number

-- the life after it, of the birth that comes next
abbrev pub next_life : Option Life → Life
next_life last = record { number = number_of last + 1; lives = true }

-- what is alive of a last persistent birth
abbrev pub alive_of : Option Life → Option Life
alive_of None = None
alive_of (Some life) = if life.lives then Some life else None

-- what is alive of a last persistent birth and of a fresh birth after it, if there is one
abbrev pub living_of : Bool → Option Life → Option Life
living_of is_fresh last = if is_fresh then Some (next_life last) else alive_of last

-- the life at each index, given the last persistent births and the indices with a fresh one
abbrev pub living_in : List (Option Life) → set.FinSet nat_cmp → ℕ → Option Life
living_in persistent fresh index = living_of (set.contains fresh index) (slice_index_or persistent index None)

-- at each index with a fresh birth the last persistent one is dead
abbrev pub AreDead : List (Option Life) → set.FinSet nat_cmp → Type 0
AreDead persistent fresh = (index : ℕ) → set.contains fresh index ≡ true → alive_of (slice_index_or persistent index None) ≡ None

-- at each index with a fresh birth a number is left for it
abbrev pub AreNumbered : List (Option Life) → set.FinSet nat_cmp → Type 0
AreNumbered persistent fresh = (index : ℕ) → set.contains fresh index ≡ true → number_of (slice_index_or persistent index None) < 2147483647

-- the last persistent birth of an index
abbrev pub persistent_at : Births → ℕ → Option Life
persistent_at births index = slice_index_or births.persistent index None

-- the life of the entity that lives at an index
abbrev pub living : Births → ℕ → Option Life
living births index = living_of (set.contains births.fresh index) (persistent_at births index)

-- how many births an index has had
abbrev pub count : Births → ℕ → ℕ
count births index = number_of (persistent_at births index) + (if set.contains births.fresh index then 1 else 0)

-- the entity is alive: it was born last at its index, and hasn't died
abbrev pub IsAlive : Births → Entity → Type 0
IsAlive births entity = living births entity.id ≡ Some entity.generation

-- a set has the indices where an entity lives
abbrev pub MarksLiving : set.FinSet nat_cmp → Births → Type 0
MarksLiving alive births = (index : ℕ) → set.contains alive index ≡ is_some (living births index)

-- the life at an index: of the entity that lives, else of the dead one, else the first
abbrev pub latest : Births → ℕ → Life
latest births index = unwrap_or (living births index) (unwrap_or (persistent_at births index) first_life)

-- the refusal names the entity, and the generation of the last persistent birth at its index, or the first
abbrev pub wrong_generation : Births → Entity → WrongGeneration → Type 0
wrong_generation births entity refusal =
    (refusal.entity ≡ entity) × (refusal.actual_gen ≡ unwrap_or (persistent_at births entity.id) first_life)

-- the entity of an index with that life
abbrev pub entity_at : Births → ℕ → Entity
entity_at births index = record { id = index; generation = latest births index }

-- without births
abbrev pub none_born : ℕ → ℕ → Births
none_born indices generations =
    record {
      persistent = [];
      fresh = set.empty;
      deletions = set.empty;
      cache = [];
      indices = indices;
      generations = generations;
    }

-- the index of the next birth: the one put into the cache last, else the next never used
abbrev pub next_index : Births → ℕ
next_index births = slice_index_or births.cache (length births.cache - 1) (length births.persistent)

-- the entity that is born next
abbrev pub newborn : Births → Entity
newborn births = record { id = next_index births; generation = next_life (persistent_at births (next_index births)) }

-- no index is left for a birth
abbrev pub IndicesAreSpent : Births → Type 0
IndicesAreSpent births = (births.cache ≡ []) × (births.indices ≤ length births.persistent)

-- an index is left, and has had as many births as there may be
abbrev pub GenerationsAreSpent : Births → Type 0
GenerationsAreSpent births = ¬ (IndicesAreSpent births) × (births.generations ≤ number_of (persistent_at births (next_index births)))

-- what a birth is refused for: no index is left, the next has had its births, or there was no memory for an index that was never used
abbrev pub RefusesBirth : Births → Error → Type 0
RefusesBirth births error =
    ((error ≡ variant.IndicesSpent) × IndicesAreSpent births) ⊎ (((error ≡ variant.GenerationsSpent) × GenerationsAreSpent births) ⊎ ((error ≡ variant.Memory) × (births.cache ≡ [])))

-- the next index is taken: out of the cache, or into use
abbrev pub with_next_taken : Births → Births
with_next_taken births =
    record births {
      persistent = if length births.cache == 0 then births.persistent ++ None ∷ [] else births.persistent;
      cache = take (length births.cache - 1) births.cache;
    }

-- that life is the last persistent birth of an index
abbrev pub with_life : Births → ℕ → Life → Births
with_life births index life = record births { persistent = slice_set births.persistent index (Some life) }

-- the next birth, at once persistent
abbrev pub allocated : Births → Births
allocated births = with_life (with_next_taken births) (next_index births) (newborn births).generation

-- the next birth, fresh
abbrev pub created : Births → Births
created births = record (with_next_taken births) { fresh = set.insert births.fresh (next_index births) }

-- the deletion of the entity at an index is accepted
abbrev pub deleted : Births → ℕ → Births
deleted births index = record births { deletions = set.insert births.deletions index }

-- the entity at an index died: its birth is persistent, its index in the cache
abbrev pub buried : Births → ℕ → Births
buried births index =
    record births {
      persistent = slice_set births.persistent index (Some (record { number = count births index; lives = false }));
      fresh = set.remove births.fresh index;
      deletions = set.remove births.deletions index;
      cache = births.cache ++ index ∷ [];
    }

-- the entities at the indices of a list died, in the list's order
abbrev pub all_buried : Births → List ℕ → Births
all_buried births [] = births
all_buried births (index ∷ indices) = all_buried (buried births index) indices

-- the fresh birth at an index is persistent
abbrev pub settled : Births → ℕ → Births
settled births index =
    record births {
      persistent = slice_set births.persistent index (Some (next_life (persistent_at births index)));
      fresh = set.remove births.fresh index;
    }

-- the fresh births at the indices of a list are persistent
abbrev pub all_settled : Births → List ℕ → Births
all_settled births [] = births
all_settled births (index ∷ indices) = all_settled (settled births index) indices

-- the entities whose deletion is accepted, ascending by index
abbrev pub all_deleted : Births → List Entity
all_deleted births = map (entity_at births) (walk (set.contains births.deletions))

-- the entities that are alive, ascending by index
abbrev pub all_living : Births → List Entity
all_living births = map (entity_at births) (walk (λ index. is_some (living births index)))

-- first the fresh births became persistent, then the entities whose deletion was accepted died, each ascending by index
abbrev pub merged : Births → Births
merged births = all_buried (all_settled births (walk (set.contains births.fresh))) (walk (set.contains births.deletions))

-- the indices of entities
abbrev pub indices_of : List Entity → List ℕ
indices_of entities = map (λ entity. entity.id) entities

-- each entity of a list is alive, and none is named twice, where `lives` says who lives at an index
pub record CanKill (lives : ℕ → Option Life) (entities : List Entity) : Type 0 where
  pub alive : All (λ entity. lives entity.id ≡ Some entity.generation) entities
  pub apart : IsDistinct (λ one other. one == other) (indices_of entities)

-- each index of a set is that of an entity of a list
abbrev pub AreIndicesOf : List Entity → set.FinSet nat_cmp → Type 0
AreIndicesOf entities marked = (index : ℕ) → set.contains marked index ≡ true → list_any (λ other. index == other) (indices_of entities) ≡ true

-- the entities before a place can be killed, and the one there isn't alive, or is named before
pub record IsFirstFault (lives : ℕ → Option Life) (entities : List Entity) (place : ℕ) : Type 0 where
  pub before : CanKill lives (take place entities)
  pub inside : place < length entities
  pub fault : HoldsAt (λ entity. ¬ (lives entity.id ≡ Some entity.generation) ⊎ (list_any (λ other. entity.id == other) (indices_of (take place entities)) ≡ true)) entities place

-- the refusal names the entity at the first fault
abbrev pub RefusesKill : Births → List Entity → Error → Type 0
RefusesKill births entities error =
    (place : ℕ) × IsFirstFault (living births) entities place × HoldsAt (λ entity. (refusal : WrongGeneration) × wrong_generation births entity refusal × (error ≡ variant.WrongGeneration refusal)) entities place

-- the deletion of an entity that is alive is accepted, and else nothing changed
abbrev pub DeletesIfAlive : Births → Entity → Births → Type 0
DeletesIfAlive before entity after = (IsAlive before entity → after ≡ deleted before entity.id) × (¬ (IsAlive before entity) → after ≡ before)

-- the next so many births, all fresh
abbrev pub all_created : ℕ → Births → Births
all_created zero births = births
all_created (suc more) births = created (all_created more births)

-- the entities that these bring to life, in their order
abbrev pub newborns : ℕ → Births → List Entity
newborns zero births = []
newborns (suc more) births = newborns more births ++ newborn (all_created more births) ∷ []

-- an index and a generation is left for each of the next so many births
abbrev pub CanCreate : ℕ → Births → Type 0
CanCreate zero births = Unit {0}
CanCreate (suc more) births = CanCreate more births × ¬ (IndicesAreSpent (all_created more births)) × ¬ (GenerationsAreSpent (all_created more births))

-- of so many births one is refused after those before it
abbrev pub RefusesBirths : ℕ → Births → Error → Type 0
RefusesBirths number births error = (error ≡ variant.Memory) ⊎ ((place : ℕ) × (place < number) × CanCreate place births × RefusesBirth (all_created place births) error)

-- an entity was born: its generation counts a birth that its index had
abbrev pub IsBorn : Births → Entity → Type 0
IsBorn births entity = (entity.generation.lives ≡ true) × (0 < entity.generation.number) × (entity.generation.number ≤ count births entity.id)

-- an entity is dead: it was born and isn't alive
abbrev pub IsDead : Births → Entity → Type 0
IsDead births entity = IsBorn births entity × ¬ (IsAlive births entity)

-- no birth is lost, and who lives after lived before or was born since
pub record Continues (before after : Births) : Type 0 where
  pub births : (index : ℕ) → count before index ≤ count after index
  pub lives : (index : ℕ) (life : Life) → living after index ≡ Some life → (living before index ≡ Some life) ⊎ (count before index < life.number)

-- none of the entities was born before; after, each of them lives, at an index in range, and none is named twice
pub record AreNew (before : Births) (entities : List Entity) (after : Births) : Type 0 where
  pub unborn : All (λ entity. ¬ (IsBorn before entity)) entities
  pub range : All (λ entity. entity.id < 16777216) entities
  pub live : CanKill (living after) entities

-- who was alive lives on
abbrev pub LivesOn : Births → Births → Type 0
LivesOn before after = (entity : Entity) → IsAlive before entity → IsAlive after entity

-- an entity began to live, and at each other index nothing changed
abbrev pub BringsToLife : Births → Entity → Births → Type 0
BringsToLife before entity after = (index : ℕ) → living after index ≡ (if index == entity.id then Some entity.generation else living before index)

-- the next so many births, at once persistent
abbrev pub all_allocated : ℕ → Births → Births
all_allocated number births = all_settled (all_created number births) (indices_of (newborns number births))

-- the births of all entities of a list are fresh, and none is named twice
pub record AreFresh (births : Births) (entities : List Entity) : Type 0 where
  pub fresh : All (λ entity. set.contains births.fresh entity.id ≡ true) entities
  pub apart : IsDistinct (λ one other. one == other) (indices_of entities)

-- who lived at these indices lives no more, and at each other index nothing changed
abbrev pub LivesBut : (ℕ → Bool) → Births → Births → Type 0
LivesBut gone before after = (index : ℕ) → living after index ≡ (if gone index then None else living before index)

-- whether an index is that of an entity of a list
abbrev pub is_named : List Entity → ℕ → Bool
is_named entities index = list_any (λ other. index == other) (indices_of entities)
