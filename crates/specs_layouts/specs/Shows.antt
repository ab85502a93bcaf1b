-- What the events of a storage show of the change from one state to another.
use Rattle.std.specs.Prelude.{◌≡◌, ◌==◌, ℕ, Bool, true, List, Option, ◌⊎◌}
use Rattle.std.specs.List.{list_any}
use Rattle.specs_layouts.specs.Channels.{Log, with_more}
use Rattle.specs_layouts.specs.declared.track.ComponentEvent.{ComponentEvent}
use Rattle.specs_layouts.specs.declared.track.ComponentEvent.TheVariants.{Inserted, Modified, Removed}

-- the index of an event
abbrev pub index_of : ComponentEvent → ℕ
index_of (Inserted index) = index
index_of (Modified index) = index
index_of (Removed index) = index

-- some event of a list is of that index
abbrev pub Names : List ComponentEvent → ℕ → Type 0
Names events index = list_any (λ event. index_of event == index) events ≡ true

-- events came behind the others, and while the storage emits each index whose part is another now is that of one of them
pub record Shows {S T : Type 0} (part_at : S → ℕ → Option T) (events : S → Log ComponentEvent) (emits : S → Bool) (before after : S) : Type 0 where
  pub more : List ComponentEvent
  pub told : events after ≡ with_more (events before) more
  pub emission : emits after ≡ emits before
  pub all : emits before ≡ true → (index : ℕ) → (part_at after index ≡ part_at before index) ⊎ Names more index
