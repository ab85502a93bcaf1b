-- A value of what is held that is another after.
use Rattle.std.specs.Prelude.{◌≡◌, ◌-◌, ℕ, Bool, false, List, Option, Some, option_map}
use Rattle.shred_world.specs.declared.resource_id.ResourceId.{ResourceId}
use Rattle.shred_world.specs.ResourceIds.{same_id}
use Rattle.shred_world.specs.Bundles.{Holding, readable}
use Rattle.specs_layouts.specs.Channels.{Log}
use Rattle.specs_layouts.specs.Shows.{Shows}
use Rattle.specs_layouts.specs.declared.track.ComponentEvent.{ComponentEvent}
use Rattle.specs_layouts.specs.Masked.{Masked}
use Rattle.scene_world.specs.Columns.{column_in, events_in, emits_in, storing_by}
use Rattle.scene_world.specs.Stored.{Stored}
use Rattle.scene_world.specs.Numbers.{number_at, taken_at}

-- under an id this value stands after, and all else is as it was
pub record Sets {V : Type 0} (id : ResourceId) (value : V) (seen left : Holding V) : Type 0 where
  pub here : readable (left id) ≡ Some value
  pub others : (other : ResourceId) → same_id other id ≡ false → left other ≡ seen other

-- the value under an id became one that it may become, and all else is as it was
pub record Changes {V : Type 0} (id : ResourceId) (Becomes : V → V → Type 0) (seen left : Holding V) : Type 0 where
  pub before : V
  pub after : V
  pub there : readable (seen id) ≡ Some before
  pub sets : Sets id after seen left
  pub changed : Becomes before after

-- each number that a value stores became what is made of it at its index, and its events show it
pub record NumbersBecome {V : Type 0} (stored : V → ℕ → Option Stored) (events : V → Log ComponentEvent) (emits : V → Bool) (made : ℕ → ℕ → ℕ) (old new : V) : Type 0 where
  pub numbers : (index : ℕ) → number_at (stored new) index ≡ option_map (made index) (number_at (stored old) index)
  pub shown : Shows stored events emits old new

-- each number is less by what amounts take at its index, down to 0
abbrev pub LessBy : {V : Type 0} → (V → ℕ → Option Stored) → (V → Log ComponentEvent) → (V → Bool) → List (ℕ × ℕ) → V → V → Type 0
LessBy stored events emits amounts = NumbersBecome stored events emits (λ index number. number - taken_at index amounts)

-- so it is of the numbers in a storage over a layout that a value may have
abbrev pub LessIn : {V L T : Type 0} → (V → Option (Masked L)) → (L → ℕ → Option T) → (T → Stored) → (L → Log ComponentEvent) → (L → Bool) → List (ℕ × ℕ) → V → V → Type 0
LessIn part part_at stored events emits = LessBy (column_in part (storing_by part_at stored)) (events_in part (λ storage. events storage.inner)) (emits_in part (λ storage. emits storage.inner))
