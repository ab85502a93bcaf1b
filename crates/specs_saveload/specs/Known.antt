-- The entities that are known by their markers.
use Rattle.std.specs.Prelude.{◌≡◌, ◌⊎◌, ◌&&◌, ℕ, List, Bool, false, Option, Some, None, is_some, option_and_then, option_map, unwrap_or, if◌then◌else◌}
use Rattle.specs_entity.specs.Births.{Births, IsAlive, IsBorn, RefusesBirth, created, living, newborn}
use Rattle.specs_entity.specs.declared.errors.Error.{Error}
use Rattle.specs_entity.specs.declared.errors.Error.TheVariants as variant
use Rattle.specs_entity.specs.Life.{LifeAt}
use Rattle.specs_layouts.specs.Masked.{Masked}
use Rattle.specs_saveload.specs.Bearing.{Asks, GoesOn, IsAmong}
use Rattle.specs_saveload.specs.Saved.{same_birth}

-- whether an entity lives
abbrev pub lives_there : Births → LifeAt → Bool
lives_there births entity = unwrap_or (option_map (λ life. same_birth life entity.generation) (living births entity.id)) false

-- none was born, or an entity was, as the next
abbrev pub AddsBirth : Births → Births → LifeAt → Type 0
AddsBirth births births' entity = (births' ≡ births) ⊎ ((entity ≡ newborn births) × (births' ≡ created births))

-- the entities, what gives markers, and the markers that entities bear
pub record Known (A S : Type 0) : Type 0 where
  pub births : Births
  pub allocator : A
  pub markers : Masked S

abbrev pub known_of : {A S : Type 0} → Births → A → Masked S → Known A S
known_of births allocator markers = record { births = births; allocator = allocator; markers = markers }

-- an entity is alive
abbrev pub LivesIn : {A S : Type 0} → Known A S → LifeAt → Type 0
LivesIn known = IsAlive known.births

module _ {A S M I : Type 0} (noted : A → I → Option LifeAt) (part_at : S → ℕ → Option M) (id_of : M → I) where
  -- the entity that is noted under a marker's id, where it is alive and marked
  abbrev pub bearer_at : Known A S → M → Option LifeAt
  bearer_at known marker =
      option_and_then (λ entity. if lives_there known.births entity && is_some (part_at known.markers.inner entity.id) then Some entity else None) (noted known.allocator (id_of marker))

  -- each known bearer has a marker with the id that it is known by, and whoever is noted was born
  pub record IsSound (known : Known A S) : Type 0 where
    pub named : (marker : M) (entity : LifeAt) → bearer_at known marker ≡ Some entity → option_map id_of (part_at known.markers.inner entity.id) ≡ Some (id_of marker)
    pub born : (id : I) (entity : LifeAt) → noted known.allocator id ≡ Some entity → IsBorn known.births entity

-- a marker stands only where an entity lives
pub record IsClean {A S M : Type 0} (part_at : S → ℕ → Option M) (known : Known A S) : Type 0 where
  pub unmarked : (index : ℕ) → living known.births index ≡ None → part_at known.markers.inner index ≡ None

module _ {A S M I : Type 0} (noted : A → I → Option LifeAt) (part_at : S → ℕ → Option M) (id_of : M → I) where
  -- the entity that bears a marker
  abbrev pub bearer_in : Births → A → Masked S → M → Option LifeAt
  bearer_in births allocator markers = bearer_at noted part_at id_of (record { births = births; allocator = allocator; markers = markers })

  module _ (births births' : Births) (before after : A) (had has : Masked S) where
    -- each known bearer stays so, and who lived lives on
    abbrev pub KeepsBearers : Type 0
    KeepsBearers =
        GoesOn {S = Known A S} {M = M} (bearer_at noted part_at id_of) LivesIn (record { births = births; allocator = before; markers = had }) (record { births = births'; allocator = after; markers = has })

    -- who lives then lived before, or bears one of these markers, and what was sound is sound
    abbrev pub AddsBearers : List M → Type 0
    AddsBearers named =
        Asks {S = Known A S} {M = M} (bearer_at noted part_at id_of) LivesIn (IsSound noted part_at id_of) named (record { births = births; allocator = before; markers = had }) (record { births = births'; allocator = after; markers = has })

-- why the bearer of one of these markers isn't had: no entity can be born, or none is given a marker of that id, or there was no memory
abbrev pub RefusesBearers : {A M I : Type 0} → (A → Option I → Error → Type 0) → (id_of : M → I) → Births → A → List M → Error → Type 0
RefusesBearers {M = M} refuses id_of births allocator named error =
    RefusesBirth births error ⊎ (((marker : M) × IsAmong marker named × refuses allocator (Some (id_of marker)) error) ⊎ (error ≡ variant.Memory))
