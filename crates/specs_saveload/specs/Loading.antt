-- What is loaded of a list of data.
use Rattle.std.specs.FinSet as set
use Rattle.std.specs.Prelude.{◌≡◌, ◌≢◌, ◌⊎◌, [], ◌∷◌, ◌+◌, ◌<◌, ℕ, Bool, true, List, length, take, slice_get, Option, Some, None}
use Rattle.specs_entity.specs.Births.{Births, IsAlive}
use Rattle.specs_entity.specs.Life.{LifeAt}
use Rattle.specs_layouts.specs.Channels.{Log}
use Rattle.specs_layouts.specs.Masked.{Masked}
use Rattle.specs_layouts.specs.MaskedChanges.{KeepsParts, PutsIn, told_put, told_taken}
use Rattle.specs_layouts.specs.declared.track.ComponentEvent.{ComponentEvent}
use Rattle.specs_saveload.specs.declared.entity_data.EntityData.{EntityData}
use Rattle.specs_saveload.specs.Bearing.{GoesOn, IsAmong}
use Rattle.specs_saveload.specs.Known.{IsClean, IsSound, Known, LivesIn, bearer_at}

-- of storages, the parts of data were given to an index
pub record AreGivenParts {P C : Type 0} (parts : Option P) (gives : P → C → C → Type 0) (before after : C) : Type 0 where
  pub value : P
  pub loaded : parts ≡ Some value
  pub given : gives value before after

-- of two kinds of parts, the first is refused and the second stays, or the first is given and the second is refused
abbrev pub StopsInPair : {D E P C B : Type 0} → (load : D → Option P) → (gives : P → C → C → Type 0) → (stops : D → C → C → Type 0) → (stops_too : E → B → B → Type 0) → D × E → C × B → C × B → Type 0
StopsInPair load gives stops stops_too saved before after =
    (stops saved.0 before.0 after.0 × (after.1 ≡ before.1)) ⊎ (AreGivenParts (load saved.0) gives before.0 after.0 × stops_too saved.1 before.1 after.1)

module _ {C T : Type 0} (part_at : C → ℕ → Option T) (emits : C → Bool) (log : C → Log ComponentEvent) where
  -- the events after an index was given a part, or none: that one was put, or that the one there was taken out
  abbrev pub told_given : Option T → Masked C → ℕ → Log ComponentEvent
  told_given None before index = told_taken part_at emits log before index
  told_given (Some part) before index = told_put part_at emits log before index

  -- an index was given a part, or none, and each other has what it had; the events tell of it
  pub record GivesPart (index : ℕ) (part : Option T) (before after : Masked C) : Type 0 where
    pub puts : PutsIn part_at before index part after
    pub events : log after.inner ≡ told_given part before index
    pub emission : emits after.inner ≡ emits before.inner

  -- each index has what it had, and nothing was told
  pub record StaysAsItWas (before after : Masked C) : Type 0 where
    pub parts : KeepsParts part_at before after
    pub events : log after.inner ≡ log before.inner
    pub emission : emits after.inner ≡ emits before.inner

module _ {M D P C : Type 0} (load : (M → Option LifeAt) → D → Option P) (gives : ℕ → P → C → C → Type 0) (bearers : M → Option LifeAt) where
  -- the entity that bears an entry's marker was given just the parts of its data
  pub record GivesEntry (entry : EntityData M D) (before after : C) : Type 0 where
    pub entity : LifeAt
    pub bears : bearers entry.marker ≡ Some entity
    pub parts : AreGivenParts (load bearers entry.components) (gives entity.id) before after

  -- so it is of the entries of a list, one after the other
  abbrev pub GivesAll : List (EntityData M D) → C → C → Type 0
  GivesAll [] before after = after ≡ before
  GivesAll (entry ∷ rest) before after = (between : C) × GivesEntry entry before between × GivesAll rest between after

  pub record GivesEach (list : List (EntityData M D)) (before after : C) : Type 0 where
    pub steps : GivesAll list before after

  module _ (stops : (M → Option LifeAt) → D → ℕ → C → C → Type 0) (list : List (EntityData M D)) (place : ℕ) where
    -- the parts of the entry at a place are refused: the entity that bears its marker has those before the refused one
    pub record RefusesParts (before after : C) : Type 0 where
      pub entry : EntityData M D
      pub here : slice_get list place ≡ Some entry
      pub entity : LifeAt
      pub bears : bearers entry.marker ≡ Some entity
      pub stopped : stops bearers entry.components entity.id before after

    -- the entries before a place were given their parts, one after the other, and then nothing was done, or the parts of the one there are refused
    pub record GivesUntil (before after : C) : Type 0 where
      pub between : C
      pub each : GivesEach (take place list) before between
      pub last : (after ≡ between) ⊎ RefusesParts between after

-- an entry is loaded: the entity that bears its marker has just the parts of its data
pub record IsLoaded {M D P : Type 0} (load : (M → Option LifeAt) → D → Option P) (bearers : M → Option LifeAt) (parts_at : ℕ → P) (entry : EntityData M D) : Type 0 where
  pub entity : LifeAt
  pub bears : bearers entry.marker ≡ Some entity
  pub has : load bearers entry.components ≡ Some (parts_at entity.id)

-- no two entries have one marker
abbrev pub AreApart : {M D : Type 0} → List (EntityData M D) → Type 0
AreApart [] = Unit {0}
AreApart {M} {D} (first ∷ rest) = ((other : EntityData M D) → IsAmong other rest → first.marker ≢ other.marker) × AreApart rest

-- where neither of the bearers of two entries' markers lived, the former's index is the lower one
abbrev pub IsMadeBefore : {M D : Type 0} → (bearers : M → Option LifeAt) → (lived : LifeAt → Type 0) → EntityData M D → EntityData M D → Type 0
IsMadeBefore bearers lived one other =
    (entity entity' : LifeAt) → bearers one.marker ≡ Some entity → bearers other.marker ≡ Some entity' → ¬ (lived entity) → ¬ (lived entity') → entity.id < entity'.id

-- the entities that were made for the entries of a list ascend in the list's order
abbrev pub AreInOrder : {M D : Type 0} → (bearers : M → Option LifeAt) → (lived : LifeAt → Type 0) → List (EntityData M D) → Type 0
AreInOrder bearers lived [] = Unit {0}
AreInOrder {M} {D} bearers lived (first ∷ rest) =
    ((other : EntityData M D) → IsAmong other rest → IsMadeBefore bearers lived first other) × AreInOrder bearers lived rest

-- a marker stands in an entry: it is the entry's, or stands in its data
abbrev pub StandsIn : {M D : Type 0} → (D → List M) → M → EntityData M D → Type 0
StandsIn markers_of marker entry = IsAmong marker (entry.marker ∷ markers_of entry.components)

module _ {A S M I D P : Type 0} (noted : A → I → Option LifeAt) (part_at : S → ℕ → Option M) (id_of : M → I) (markers_of : D → List M) (load : (M → Option LifeAt) → D → Option P) (list : List (EntityData M D)) (before after : Known A S) (had has : ℕ → P) where
  -- each entry is loaded, and nothing else was done; where no index waited to be used again, those that were made ascend in the list's order
  pub record Loads : Type 0 where
    pub keeps : GoesOn (bearer_at noted part_at id_of) LivesIn before after
    pub sound : IsSound noted part_at id_of before → IsSound noted part_at id_of after
    pub loaded : IsSound noted part_at id_of before → AreApart list → (entry : EntityData M D) → IsAmong entry list → IsLoaded load (bearer_at noted part_at id_of after) has entry
    pub only : (entity : LifeAt) → IsAlive after.births entity → IsAlive before.births entity ⊎ ((entry : EntityData M D) × (marker : M) × IsAmong entry list × StandsIn markers_of marker entry × (bearer_at noted part_at id_of after marker ≡ Some entity))
    pub others : (index : ℕ) → ((entry : EntityData M D) (entity : LifeAt) → IsAmong entry list → bearer_at noted part_at id_of after entry.marker ≡ Some entity → index ≢ entity.id) → has index ≡ had index
    pub in_order : IsSound noted part_at id_of before → AreApart list → before.births.cache ≡ [] → AreInOrder (bearer_at noted part_at id_of after) (IsAlive before.births) list

  -- the entries before a place are loaded, and those behind it are not: the bearers of their markers, where there are any, have what they had
  pub record LoadsBefore (place : ℕ) : Type 0 where
    pub inside : place < length list
    pub keeps : GoesOn (bearer_at noted part_at id_of) LivesIn before after
    pub loaded : IsSound noted part_at id_of before → AreApart list → (entry : EntityData M D) → IsAmong entry (take place list) → IsLoaded load (bearer_at noted part_at id_of after) has entry
    pub others : (index : ℕ) → ((entry : EntityData M D) (entity : LifeAt) → IsAmong entry (take (place + 1) list) → bearer_at noted part_at id_of after entry.marker ≡ Some entity → index ≢ entity.id) → has index ≡ had index

-- the entry at a place isn't loaded, since the bearer of a marker that stands in it isn't had
pub record RefusesEntry {M D E : Type 0} (markers_of : D → List M) (list : List (EntityData M D)) (refuses : List M → E → Type 0) (place : ℕ) (error : E) : Type 0 where
  pub entry : EntityData M D
  pub here : slice_get list place ≡ Some entry
  pub why : refuses (entry.marker ∷ markers_of entry.components) error

-- a load is refused at a place, for a reason that is told of the entities, and of what gives markers, as they were at some moment of it
pub record RefusesLoad {A S M I D E : Type 0} (noted : A → I → Option LifeAt) (part_at : S → ℕ → Option M) (id_of : M → I) (markers_of : D → List M) (list : List (EntityData M D)) (refuses : Births → A → List M → E → Type 0) (before after : Known A S) (place : ℕ) (error : E) : Type 0 where
  pub known : Known A S
  pub since : GoesOn (bearer_at noted part_at id_of) LivesIn before known
  pub until : GoesOn (bearer_at noted part_at id_of) LivesIn known after
  pub entry : RefusesEntry markers_of list (refuses known.births known.allocator) place error

-- what stays where a load is refused: what was sound is, where no marker stands at an index where nobody lives, and no marker does then; who lives lived before, or bears a marker that stands in the list, or is about to die
pub record StaysSound {A S M I D : Type 0} (noted : A → I → Option LifeAt) (part_at : S → ℕ → Option M) (id_of : M → I) (markers_of : D → List M) (list : List (EntityData M D)) (before after : Known A S) : Type 0 where
  pub sound : IsClean part_at before → IsSound noted part_at id_of before → IsSound noted part_at id_of after
  pub clean : IsClean part_at before → IsClean part_at after
  pub only : (entity : LifeAt) → IsAlive after.births entity → IsAlive before.births entity
      ⊎ (((entry : EntityData M D) × (marker : M) × IsAmong entry list × StandsIn markers_of marker entry × (bearer_at noted part_at id_of after marker ≡ Some entity))
      ⊎ (set.contains after.births.deletions entity.id ≡ true))
