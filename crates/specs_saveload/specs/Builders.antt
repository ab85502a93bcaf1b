-- What is left where an entity in the making was marked.
use Rattle.std.specs.Prelude.{◌≡◌, ◌⊎◌, Bool, Option, Some}
use Rattle.specs_entity.specs.Births.{Births, IsAlive, entity_at}
use Rattle.specs_entity.specs.Life.{LifeAt}
use Rattle.specs_entity.specs.declared.errors.Error.{Error}
use Rattle.specs_entity.specs.declared.errors.Error.TheVariants as variant
use Rattle.specs_entity.specs.declared.errors.WrongGeneration.{WrongGeneration}
use Rattle.specs_layouts.specs.Masked.{Masked}
use Rattle.specs_layouts.specs.MaskedLends.{StorageMembers}
use Rattle.specs_markers.specs.Marking.{Marks, RefusesMark}

module _ {A M I : Type 0} (noted : A → I → Option LifeAt) (allocates : A → LifeAt → Option I → M → A → Type 0) (id_of : M → I) where
  -- the entity was marked: its marker is new, or it keeps the one that it had
  abbrev pub IsMarkedBy : {S : Type 0} → StorageMembers S M → Births → LifeAt → A → A → Masked S → Masked S → Type 0
  IsMarkedBy s births entity before after had has = (new : Bool) × Marks noted allocates id_of s births entity before after had has (Some new)

  -- it isn't alive, which the refusal tells, and the allocator is as it was; or it was refused a marker
  abbrev pub RefusesMarked : (A → Option I → Error → Type 0) → Births → LifeAt → A → A → Error → Type 0
  RefusesMarked refuses births entity before after error =
      (¬ (IsAlive births entity) × (after ≡ before) × ((refusal : WrongGeneration) × (refusal.entity ≡ entity) × (refusal.actual_gen ≡ (entity_at births entity.id).generation) × (error ≡ variant.WrongGeneration refusal)))
      ⊎ RefusesMark noted allocates id_of refuses entity before after error
