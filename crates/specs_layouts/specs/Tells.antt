-- What a reader of a storage's events can tell of what became of its parts since another state.
use Rattle.std.specs.Prelude.{◌≡◌, ◌⊎◌, ℕ, Option}
use Rattle.specs_layouts.specs.Channels.{Log, IsReader, unread}
use Rattle.specs_layouts.specs.declared.track.ComponentEvent.{ComponentEvent}
use Rattle.specs_layouts.specs.Shows.{Names}

-- each index whose part is another now is that of an event that the reader has yet to read
pub record Tells {S T : Type 0} (part_at : S → ℕ → Option T) (events : S → Log ComponentEvent) (reader : ℕ) (was now : S) : Type 0 where
  pub reads : IsReader (events now) reader
  pub all : (index : ℕ) → (part_at now index ≡ part_at was index) ⊎ Names (unread (events now) reader) index
