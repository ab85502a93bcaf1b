-- What is found of entities: parts of those that are alive, and of no other.
use Rattle.std.specs.Prelude.{◌≡◌, ℕ, ◌⊎◌, Bool, Option, None, is_some, IsSome}
use Rattle.std.specs.Borrow.{MutBor}
use Rattle.specs_entity.specs.Life.{LifeAt}
use Rattle.specs_entity.specs.Births.{Births, IsAlive, latest}
use Rattle.specs_entity.specs.declared.errors.WrongGeneration.{WrongGeneration}
use Rattle.specs_entity.specs.declared.errors.Error.{Error}
use Rattle.specs_entity.specs.declared.errors.Error.TheVariants as variant
use Rattle.specs_storage.specs.declared.storage.Storage.{Storage}

-- a look-up finds the part of an entity that is alive, and nothing of another
pub record Finds {T : Type 0} (births : Births) (parts : ℕ → Option T) (entity : LifeAt) (found : Option T) : Type 0 where
  pub alive : IsAlive births entity → found ≡ parts entity.id
  pub dead : ¬ (IsAlive births entity) → found ≡ None

-- the entity is alive and has a part
pub record HasPart {T : Type 0} (births : Births) (parts : ℕ → Option T) (entity : LifeAt) : Type 0 where
  pub alive : IsAlive births entity
  pub part : IsSome (parts entity.id)

-- which indices have a part
abbrev pub has_some : {T : Type 0} → (ℕ → Option T) → ℕ → Bool
has_some parts index = is_some (parts index)

-- the refusal names the entity, which isn't alive, and the generation of the entity that stands for its index
pub record IsRefusal (births : Births) (entity : LifeAt) (refusal : WrongGeneration) : Type 0 where
  pub dead : ¬ (IsAlive births entity)
  pub named : refusal.entity ≡ entity
  pub generation : refusal.actual_gen ≡ latest births entity.id

-- an insertion is refused where the entity isn't alive, or for want of memory
abbrev pub RefusesInsert : Births → LifeAt → Error → Type 0
RefusesInsert births entity error =
    ((refusal : WrongGeneration) × IsRefusal births entity refusal × (error ≡ variant.WrongGeneration refusal)) ⊎ (IsAlive births entity × (error ≡ variant.Memory))

-- the storage still has what it was lent: the same entities, and the same place for its parts
pub record KeepsLoans {T M : Type 0} (before after : Storage T (MutBor M)) : Type 0 where
  pub entities : after.entities ≡ before.entities
  pub store : after.store.ghost_name ≡ before.store.ghost_name
