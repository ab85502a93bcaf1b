-- Parts that are put at the entities of a world.
use Rattle.std.specs.Prelude.{◌≡◌, ℕ, ◌⊎◌, Bool, false, Option, Some, None}
use Rattle.std.specs.Option.{MatchOption, IsSome}
use Rattle.shred_world.specs.Worlds.{Slots}
use Rattle.specs_entity.specs.Births.{Births, IsAlive}
use Rattle.specs_entity.specs.declared.ids.Entity.{Entity}
use Rattle.specs_entity.specs.declared.errors.Error.{Error}
use Rattle.specs_entity.specs.declared.errors.Error.TheVariants as variant
use Rattle.specs_layouts.specs.Channels.{Log}
use Rattle.specs_layouts.specs.declared.track.ComponentEvent.{ComponentEvent}
use Rattle.specs_layouts.specs.Masked.{Masked}
use Rattle.specs_layouts.specs.MaskedChanges.{PutsIn, KeepsParts, told_put}
use Rattle.specs_storage.specs.Found.{RefusesInsert}
use Rattle.specs_world.specs.Resources.{Place, Becomes}

-- a part was put at an index in the place of what it had, and one event tells of it where the storage emits
pub record IsPut {S T : Type 0} (part_at : S → ℕ → Option T) (events : S → Log ComponentEvent) (emits : S → Bool) (index : ℕ) (part : T) (had : Option T) (was now : Masked S) : Type 0 where
  pub parts : PutsIn part_at was index (Some part) now
  pub replaced : had ≡ part_at was.inner index
  pub told : events now.inner ≡ told_put part_at emits events was index
  pub emission : emits now.inner ≡ emits was.inner

-- each index has the part that it had, and no event was told
pub record Keeps {S T : Type 0} (part_at : S → ℕ → Option T) (events : S → Log ComponentEvent) (emits : S → Bool) (was now : Masked S) : Type 0 where
  pub parts : KeepsParts part_at was now
  pub told : events now.inner ≡ events was.inner
  pub emission : emits now.inner ≡ emits was.inner

-- a part was put at an entity that is alive, and no other id's slot changed
pub record PutsPart {V S T : Type 0} (at : Place V (Masked S)) (part_at : S → ℕ → Option T) (events : S → Log ComponentEvent) (emits : S → Bool) (entity : Entity) (part : T) (had : Option T) (births : Option Births) (before after : Slots V) : Type 0 where
  pub alive : MatchOption births ⊥ (λ b. IsAlive b entity)
  pub puts : Becomes at (IsPut part_at events emits entity.id part had) before after

-- nothing changed but that the storage may have more room
abbrev pub KeepsStorage : {V S T : Type 0} → Place V (Masked S) → (S → ℕ → Option T) → (S → Log ComponentEvent) → (S → Bool) → Slots V → Slots V → Type 0
KeepsStorage at part_at events emits before after = (after ≡ before) ⊎ Becomes at (Keeps part_at events emits) before after

-- what the putting of a part is refused for: there is no storage or there are no entities, or the entity isn't alive, or there was no memory
abbrev pub RefusesPart : {P : Type 0} → (births : Option Births) → (storage : Option P) → Entity → Error → Type 0
RefusesPart (Some births) (Some storage) entity error = RefusesInsert births entity error
RefusesPart (Some births) None entity error = error ≡ variant.NotRegistered
RefusesPart None storage entity error = error ≡ variant.NotRegistered

-- a part can't be refused: the entity is alive and has one, and the storage doesn't emit
abbrev pub AcceptsPart : {S T : Type 0} → (S → ℕ → Option T) → (S → Bool) → (births : Option Births) → (storage : Option (Masked S)) → Entity → Type 0
AcceptsPart part_at emits (Some births) (Some storage) entity = IsAlive births entity × IsSome (part_at storage.inner entity.id) × (emits storage.inner ≡ false)
AcceptsPart part_at emits (Some births) None entity = ⊥
AcceptsPart part_at emits None storage entity = ⊥
