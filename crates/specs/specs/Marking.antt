-- What a world is after one of its entities was marked.
use Rattle.std.specs.Prelude.{◌≡◌, ◌⊎◌, Bool, Option, Some, None}
use Rattle.std.specs.FinMap as map
use Rattle.shred_world.specs.Worlds.{Slots}
use Rattle.specs_entity.specs.Births.{Births, IsAlive}
use Rattle.specs_entity.specs.Life.{LifeAt}
use Rattle.specs_entity.specs.declared.errors.Error.{Error}
use Rattle.specs_entity.specs.declared.errors.Error.TheVariants as variant
use Rattle.specs_layouts.specs.Masked.{Masked}
use Rattle.specs_layouts.specs.MaskedLends.{StorageMembers}
use Rattle.specs_markers.specs.Marking.{IsUntold, Marks, RefusesMark}
use Rattle.specs_world.specs.Resources.{Place, Becomes, held}

-- a world whose resource at a place is out
abbrev pub without : {V R : Type 0} → Place V R → Slots V → Slots V
without at w = map.insert w at.id None

module _ {V S M A I : Type 0} (storage_at : Place V (Masked S)) (noted : A → I → Option LifeAt) (allocates : A → LifeAt → Option I → M → A → Type 0) (id_of : M → I) (s : StorageMembers S M) where
  -- a storage became one in which the entity is marked, and no other slot changed
  abbrev pub IsMarkedBeside : LifeAt → Births → A → A → Slots V → Slots V → Option Bool → Type 0
  IsMarkedBeside entity births was now before after new = Becomes storage_at (λ had has. Marks noted allocates id_of s births entity was now had has new) before after

  module _ (refuses : A → Option I → Error → Type 0) where
    -- an entity that is alive got no marker, and each index of its storage has the one that it had
    abbrev pub IsRefused : LifeAt → Births → A → A → Error → Masked S → Masked S → Type 0
    IsRefused entity births was now error had has = IsAlive births entity × RefusesMark noted allocates id_of refuses entity was now error × IsUntold s had has

    -- the world has no such storage, and nothing changed; or that was refused
    abbrev pub RefusesBeside : LifeAt → Births → A → A → Slots V → Slots V → Error → Type 0
    RefusesBeside entity births was now before after error =
        ((error ≡ variant.NotRegistered) × (held storage_at before ≡ None) × (after ≡ before) × (now ≡ was)) ⊎ Becomes storage_at (IsRefused entity births was now error) before after

module _ {V S M A I : Type 0} (births_at : Place V Births) (storage_at : Place V (Masked S)) (noted : A → I → Option LifeAt) (allocates : A → LifeAt → Option I → M → A → Type 0) (id_of : M → I) (s : StorageMembers S M) where
  -- of the world's entities
  abbrev pub IsMarkedBy : LifeAt → A → A → Slots V → Slots V → Option Bool → Type 0
  IsMarkedBy entity was now before after new = (births : Births) × (held births_at before ≡ Some births) × IsMarkedBeside storage_at noted allocates id_of s entity births was now before after new

  -- the world has no entities, or no such storage beside them, and nothing changed; or it was refused
  abbrev pub RefusesBy : (A → Option I → Error → Type 0) → LifeAt → A → A → Slots V → Slots V → Error → Type 0
  RefusesBy refuses entity was now before after error =
      ((error ≡ variant.NotRegistered) × ((held births_at before ≡ None) ⊎ (held storage_at (without births_at before) ≡ None)) × (after ≡ before) × (now ≡ was))
      ⊎ ((births : Births) × (held births_at before ≡ Some births) × Becomes storage_at (IsRefused storage_at noted allocates id_of s refuses entity births was now error) before after)

module _ {V S M A I : Type 0} (births_at : Place V Births) (storage_at : Place V (Masked S)) (allocator_at : Place V A) (noted : A → I → Option LifeAt) (allocates : A → LifeAt → Option I → M → A → Type 0) (id_of : M → I) (s : StorageMembers S M) where
  -- the storage of the markers and what gives them became others by this, told of the entities, and no other slot changed
  abbrev pub BecomeBoth : (Births → A → A → Masked S → Masked S → Type 0) → Slots V → Slots V → Type 0
  BecomeBoth change before after =
      (births : Births) × (was now : A) × (middle : Slots V) × (held births_at before ≡ Some births) × (held allocator_at before ≡ Some was)
      × Becomes storage_at (change births was now) before middle × (after ≡ map.insert middle allocator_at.id (Some (allocator_at.wrapped now)))

  -- an entity was marked: its marker is new, or it keeps the one that it had; one that isn't alive wasn't
  abbrev pub IsMarkedIn : LifeAt → Slots V → Slots V → Option Bool → Type 0
  IsMarkedIn entity before after new = BecomeBoth (λ births was now had has. Marks noted allocates id_of s births entity was now had has new) before after

  -- what the marking of an entity takes out of a world one after the other: what gives markers, the entities, and their storage; one isn't there
  abbrev pub Lacks : Slots V → Type 0
  Lacks w = (held allocator_at w ≡ None) ⊎ ((held births_at (without allocator_at w) ≡ None) ⊎ (held storage_at (without births_at (without allocator_at w)) ≡ None))

  -- the world lacks one of the three, and nothing changed; or the entity is alive and was refused a marker
  abbrev pub RefusesIn : (A → Option I → Error → Type 0) → LifeAt → Slots V → Slots V → Error → Type 0
  RefusesIn refuses entity before after error =
      ((error ≡ variant.NotRegistered) × Lacks before × (after ≡ before))
      ⊎ BecomeBoth (λ births was now had has. IsAlive births entity × RefusesMark noted allocates id_of refuses entity was now error × IsUntold s had has) before after

  -- an entity was marked, or that was refused
  abbrev pub MarksOrRefuses : (A → Option I → Error → Type 0) → LifeAt → (refused : Option Error) → Slots V → Slots V → Type 0
  MarksOrRefuses refuses entity None before after = (new : Option Bool) × IsMarkedIn entity before after new
  MarksOrRefuses refuses entity (Some error) before after = RefusesIn refuses entity before after error
