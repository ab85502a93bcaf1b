-- What an allocator, a storage of markers and the entities are after an entity was marked, or looked for.
use Rattle.std.specs.Prelude.{◌≡◌, ◌⊎◌, ℕ, Bool, true, false, Option, Some, None, IsSome, IfSome, option_map}
use Rattle.specs_entity.specs.Births.{Births, BringsToLife, IsAlive, IsBorn, LivesOn, Continues, RefusesBirth, newborn, created, deleted}
use Rattle.specs_entity.specs.Life.{LifeAt}
use Rattle.specs_entity.specs.declared.errors.Error.{Error}
use Rattle.specs_entity.specs.declared.errors.Error.TheVariants as variant
use Rattle.specs_layouts.specs.Masked.{Masked}
use Rattle.specs_layouts.specs.MaskedChanges.{PutsIn, KeepsParts, told_in, told_put}
use Rattle.specs_layouts.specs.MaskedLends.{StorageMembers}
use Rattle.specs_layouts.specs.Parts.{told}
use Rattle.specs_layouts.specs.declared.track.ComponentEvent.TheVariants as event
use Rattle.specs_markers.specs.Marks.{Notes, IsAsked}

module _ {S M : Type 0} (s : StorageMembers S M) where
  -- each index has the marker that it had, and nothing was told
  pub record IsUntold (had has : Masked S) : Type 0 where
    pub parts : KeepsParts s.part_at had has
    pub events : s.events has.inner ≡ s.events had.inner
    pub emission : s.emits has.inner ≡ s.emits had.inner

  -- an index has another marker than before, of that id
  pub record IsUpdated {I : Type 0} (id_of : M → I) (id : I) (index : ℕ) (had has : Masked S) : Type 0 where
    pub marker : M
    pub named : id_of marker ≡ id
    pub puts : PutsIn s.part_at had index (Some marker) has
    pub events : s.events has.inner ≡ told_in s.emits s.events had (event.Modified index)
    pub emission : s.emits has.inner ≡ s.emits had.inner

-- an entity is noted under an id, alive and marked
pub record IsKnown {A S M I : Type 0} (noted : A → I → Option LifeAt) (part_at : S → ℕ → Option M) (id : I) (births : Births) (allocator : A) (storage : Masked S) (entity : LifeAt) : Type 0 where
  pub under : noted allocator id ≡ Some entity
  pub alive : IsAlive births entity
  pub marked : IsSome (part_at storage.inner entity.id)

-- no entity is
abbrev pub IsUnknown : {A S M I : Type 0} → (A → I → Option LifeAt) → (S → ℕ → Option M) → I → Births → A → Masked S → Type 0
IsUnknown noted part_at id births allocator storage = (entity : LifeAt) → ¬ (IsKnown noted part_at id births allocator storage entity)

module _ {A M I : Type 0} (noted : A → I → Option LifeAt) (allocates : A → LifeAt → Option I → M → A → Type 0) (id_of : M → I) where
  -- the allocator gave an entity a marker, for an id or for none, and noted it
  pub record HasGiven (asked : Option I) (entity : LifeAt) (before after : A) (marker : M) : Type 0 where
    pub gives : allocates before entity asked marker after
    pub named : IsAsked asked (id_of marker)
    pub notes : Notes (noted before) (id_of marker) entity (noted after)

  -- why an entity got no marker: the allocator refused it and is as it was, or gave one for which there was no memory
  abbrev pub RefusesGift : (A → Option I → Error → Type 0) → Option I → LifeAt → A → A → Error → Type 0
  RefusesGift refuses asked entity before after error =
      (refuses before asked error × (after ≡ before)) ⊎ ((error ≡ variant.Memory) × ((marker : M) × HasGiven asked entity before after marker))

  -- why an entity isn't marked: so, or there was no memory for the events, and the allocator is as it was
  abbrev pub RefusesMark : (A → Option I → Error → Type 0) → LifeAt → A → A → Error → Type 0
  RefusesMark refuses entity before after error =
      RefusesGift refuses None entity before after error ⊎ ((error ≡ variant.Memory) × (after ≡ before))

module _ {A S M I : Type 0} (noted : A → I → Option LifeAt) (allocates : A → LifeAt → Option I → M → A → Type 0) (id_of : M → I) (s : StorageMembers S M) where
  -- an entity was given a marker, for an id or for none, and its index has it
  pub record IsGiven (asked : Option I) (entity : LifeAt) (before after : A) (had has : Masked S) : Type 0 where
    pub marker : M
    pub given : HasGiven noted allocates id_of asked entity before after marker
    pub puts : PutsIn s.part_at had entity.id (Some marker) has

  module _ (births : Births) (entity : LifeAt) (before after : A) (had has : Masked S) where
    -- an entity that isn't alive isn't marked
    pub record LeavesDead : Type 0 where
      pub dead : ¬ (IsAlive births entity)
      pub allocator : after ≡ before
      pub storage : has ≡ had

    -- an entity keeps the marker that it has, which was lent for writing
    pub record KeepsMark : Type 0 where
      pub alive : IsAlive births entity
      pub marked : IsSome (s.part_at had.inner entity.id)
      pub allocator : after ≡ before
      pub parts : KeepsParts s.part_at had has
      pub events : s.events has.inner ≡ told_in s.emits s.events had (event.Modified entity.id)
      pub emission : s.emits has.inner ≡ s.emits had.inner

    -- an entity without a marker is given a new one, which was lent for writing
    pub record MakesMark : Type 0 where
      pub alive : IsAlive births entity
      pub unmarked : s.part_at had.inner entity.id ≡ None
      pub given : IsGiven None entity before after had has
      pub events : s.events has.inner ≡ told (s.emits had.inner) (told_in s.emits s.events had (event.Inserted entity.id)) (event.Modified entity.id)
      pub emission : s.emits has.inner ≡ s.emits had.inner

    -- what is left where an entity was to be marked, by whether its marker is new, or by none where it isn't alive
    abbrev pub Marks : Option Bool → Type 0
    Marks None = LeavesDead
    Marks (Some false) = KeepsMark
    Marks (Some true) = MakesMark

    -- and the id that is told is that of the marker at its index
    pub record TellsMark (told : Option (I × Bool)) : Type 0 where
      pub marks : Marks (option_map (λ mark. mark.1) told)
      pub id : IfSome told (λ mark. option_map id_of (s.part_at has.inner entity.id) ≡ Some mark.0)

  module _ (id : I) (births births' : Births) (before after : A) (had has : Masked S) where
    -- the entity that is known under the id was found, and its marker brought up to date
    pub record FindsMarked (entity : LifeAt) : Type 0 where
      pub known : IsKnown noted s.part_at id births before had entity
      pub updated : IsUpdated s id_of id entity.id had has
      pub entities : births' ≡ births
      pub allocator : after ≡ before

    -- where none is known, one was created with a marker of that id
    pub record MakesMarked (entity : LifeAt) : Type 0 where
      pub unknown : IsUnknown noted s.part_at id births before had
      pub born : entity ≡ newborn births
      pub new : ¬ (IsBorn births entity)
      pub alive : IsAlive births' entity
      pub lives : BringsToLife births entity births'
      pub live_on : LivesOn births births'
      pub continues : Continues births births'
      pub entities : births' ≡ created births
      pub given : IsGiven (Some id) (newborn births) before after had has
      pub events : s.events has.inner ≡ told_put s.part_at s.emits s.events had (newborn births).id
      pub emission : s.emits has.inner ≡ s.emits had.inner

    -- there was no memory for the event of a known marker, and nothing changed
    pub record RefusesUpdate (error : Error) : Type 0 where
      pub why : error ≡ variant.Memory
      pub emits : ¬ (s.emits had.inner ≡ false)
      pub known : (entity : LifeAt) × IsKnown noted s.part_at id births before had entity
      pub entities : births' ≡ births
      pub allocator : after ≡ before
      pub storage : has ≡ had

    -- none is known and none could be created, and nothing changed
    pub record RefusesCreation (error : Error) : Type 0 where
      pub why : RefusesBirth births error
      pub unknown : IsUnknown noted s.part_at id births before had
      pub entities : births' ≡ births
      pub allocator : after ≡ before
      pub storage : has ≡ had

    -- none is known, and the one that was created got no marker: its deletion is accepted
    pub record RefusesMarked (refuses : A → Option I → Error → Type 0) (error : Error) : Type 0 where
      pub why : RefusesGift noted allocates id_of refuses (Some id) (newborn births) before after error
      pub unknown : IsUnknown noted s.part_at id births before had
      pub new : ¬ (IsBorn births (newborn births))
      pub entities : births' ≡ deleted (created births) (newborn births).id
      pub live_on : LivesOn births births'
      pub storage : IsUntold s had has

    -- what is left where an entity isn't created with its marker
    abbrev pub RefusesMaking : (A → Option I → Error → Type 0) → Error → Type 0
    RefusesMaking refuses error = RefusesCreation error ⊎ RefusesMarked refuses error

    -- what is left where an entity is looked for by its marker
    abbrev pub Retrieves : LifeAt → Type 0
    Retrieves entity = FindsMarked entity ⊎ MakesMarked entity

    -- what is left where that is refused
    abbrev pub RefusesRetrieval : (A → Option I → Error → Type 0) → Error → Type 0
    RefusesRetrieval refuses error = RefusesUpdate error ⊎ (RefusesCreation error ⊎ RefusesMarked refuses error)
