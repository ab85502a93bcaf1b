-- What jobs make of a world: parts that are put and dropped at entities, and jobs one after the other.
use Rattle.std.specs.Prelude.{◌≡◌, ◌≢◌, ◌⊎◌, ℕ, Bool, true, Option, Some, None, List, [], ◌∷◌, IsSome}
use Rattle.shred_world.specs.Worlds.{Slots}
use Rattle.specs_entity.specs.Births.{Births, IsAlive}
use Rattle.specs_entity.specs.declared.ids.Entity.{Entity}
use Rattle.specs_entity.specs.declared.errors.Error.{Error}
use Rattle.specs_entity.specs.declared.errors.Error.TheVariants as variant
use Rattle.specs_layouts.specs.Channels.{Log}
use Rattle.specs_layouts.specs.declared.track.ComponentEvent.{ComponentEvent}
use Rattle.specs_layouts.specs.Masked.{Masked}
use Rattle.specs_layouts.specs.MaskedChanges.{PutsIn, told_taken}
use Rattle.specs_world.specs.Resources.{Place, held, Becomes}
use Rattle.specs_world.specs.Inserting.{PutsPart, KeepsStorage, RefusesPart, AcceptsPart}

-- a part was put at an entity, or that was refused, where it could be, and each index has the part that it had
abbrev pub PutsOrRefuses : {V S T : Type 0} → Place V Births → Place V (Masked S) → (S → ℕ → Option T) → (S → Log ComponentEvent) → (S → Bool) → Entity → T → (refused : Option Error) → Slots V → Slots V → Type 0
PutsOrRefuses {T = T} births_at at part_at events emits entity part None before after = (had : Option T) × PutsPart at part_at events emits entity part had (held births_at before) before after
PutsOrRefuses births_at at part_at events emits entity part (Some error) before after =
    RefusesPart (held births_at before) (held at before) entity error × (¬ (AcceptsPart part_at emits (held births_at before) (held at before) entity)) × KeepsStorage at part_at events emits before after

-- an index has no part any more, and one event tells of the part that it had where the storage emits
pub record IsDropped {S T : Type 0} (part_at : S → ℕ → Option T) (events : S → Log ComponentEvent) (emits : S → Bool) (index : ℕ) (was now : Masked S) : Type 0 where
  pub parts : PutsIn part_at was index None now
  pub told : events now.inner ≡ told_taken part_at emits events was index
  pub emission : emits now.inner ≡ emits was.inner

-- the part of an entity that is alive was dropped, if it had one; of another nothing changed
pub record DropsPart {V S T : Type 0} (births_at : Place V Births) (at : Place V (Masked S)) (part_at : S → ℕ → Option T) (events : S → Log ComponentEvent) (emits : S → Bool) (entity : Entity) (before after : Slots V) : Type 0 where
  pub births : Births
  pub born : held births_at before ≡ Some births
  pub stored : IsSome (held at before)
  pub alive : IsAlive births entity → Becomes at (IsDropped part_at events emits entity.id) before after
  pub dead : ¬ (IsAlive births entity) → after ≡ before

-- what the dropping of a part is refused for: there is no storage or there are no entities, or the entity is alive, the storage emits, and there was no memory
abbrev pub RefusesDrop : {S : Type 0} → (S → Bool) → (births : Option Births) → (storage : Option (Masked S)) → Entity → Error → Type 0
RefusesDrop emits (Some births) (Some storage) entity error = IsAlive births entity × (emits storage.inner ≡ true) × (error ≡ variant.Memory)
RefusesDrop emits (Some births) None entity error = error ≡ variant.NotRegistered
RefusesDrop emits None storage entity error = error ≡ variant.NotRegistered

-- the part of an entity was dropped, or that was refused and each index has the part that it had
abbrev pub DropsOrRefuses : {V S T : Type 0} → Place V Births → Place V (Masked S) → (S → ℕ → Option T) → (S → Log ComponentEvent) → (S → Bool) → Entity → (refused : Option Error) → Slots V → Slots V → Type 0
DropsOrRefuses births_at at part_at events emits entity None before after = DropsPart births_at at part_at events emits entity before after
DropsOrRefuses births_at at part_at events emits entity (Some error) before after = RefusesDrop emits (held births_at before) (held at before) entity error × KeepsStorage at part_at events emits before after

-- the earlier of two refusals
abbrev pub earlier : Option Error → Option Error → Option Error
earlier None other = other
earlier (Some error) other = Some error

-- each of a list was tried in turn, and the earliest refusal is told; want of memory alone ended it at once
abbrev pub TriesEach : {V X : Type 0} → (X → Option Error → Slots V → Slots V → Type 0) → List X → (so_far refused : Option Error) → Slots V → Slots V → Type 0
TriesEach tries [] so_far refused before after = (refused ≡ so_far) × (after ≡ before)
TriesEach {V} tries (x ∷ xs) so_far refused before after =
    (tries x (Some variant.Memory) before after × (refused ≡ Some variant.Memory))
    ⊎ ((one : Option Error) × (middle : Slots V) × tries x one before middle × (one ≢ Some variant.Memory) × TriesEach tries xs (earlier so_far one) refused middle after)

-- a pair's part was put at its entity, or that was refused
abbrev pub PutsPair : {V S T : Type 0} → Place V Births → Place V (Masked S) → (S → ℕ → Option T) → (S → Log ComponentEvent) → (S → Bool) → Entity × T → (refused : Option Error) → Slots V → Slots V → Type 0
PutsPair births_at at part_at events emits pair = PutsOrRefuses births_at at part_at events emits pair.0 pair.1

-- each pair's part was tried to be put at its entity, in turn
abbrev pub PutsEach : {V S T : Type 0} → Place V Births → Place V (Masked S) → (S → ℕ → Option T) → (S → Log ComponentEvent) → (S → Bool) → List (Entity × T) → (refused : Option Error) → Slots V → Slots V → Type 0
PutsEach births_at at part_at events emits pairs = TriesEach (PutsPair births_at at part_at events emits) pairs None
