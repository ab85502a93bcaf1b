-- Parts that are dropped by their indices, one after the other.
use Rattle.std.specs.Prelude.{◌≡◌, ℕ, ◌==◌, Bool, List, [], ◌∷◌, map, Option, None, is_some, if◌then◌else◌}
use Rattle.specs_entity.specs.Life.{LifeAt}
use Rattle.specs_layouts.specs.Channels.{Log}
use Rattle.specs_layouts.specs.declared.track.ComponentEvent.{ComponentEvent}
use Rattle.specs_layouts.specs.declared.track.ComponentEvent.TheVariants as event
use Rattle.specs_layouts.specs.Parts.{SameParts, told}

-- the indices of entities
abbrev pub ids_of : List LifeAt → List ℕ
ids_of entities = map (λ entity. entity.id) entities

-- the parts, but for that of an index
abbrev pub without : {T : Type 0} → (ℕ → Option T) → ℕ → ℕ → Option T
without parts index other = if other == index then None else parts other

-- the parts, but for those of the indices of a list
abbrev pub without_all : {T : Type 0} → (ℕ → Option T) → List ℕ → ℕ → Option T
without_all parts [] = parts
without_all parts (index ∷ indices) = without_all (without parts index) indices

-- the events after those indices' parts are dropped in turn, where each part that was there is told
abbrev pub told_all : {T : Type 0} → Bool → (ℕ → Option T) → Log ComponentEvent → List ℕ → Log ComponentEvent
told_all emits parts events [] = events
told_all emits parts events (index ∷ indices) =
    told_all emits (without parts index) (if is_some (parts index) then told emits events (event.Removed index) else events) indices

-- the parts of those indices were dropped in turn, each was told, and the emission stays
pub record DropsAll {T : Type 0} (had : ℕ → Option T) (told : Log ComponentEvent) (emits : Bool) (indices : List ℕ) (has : ℕ → Option T) (tells : Log ComponentEvent) (emits' : Bool) : Type 0 where
  pub parts : SameParts (without_all had indices) has
  pub events : tells ≡ told_all emits had told indices
  pub emission : emits' ≡ emits
