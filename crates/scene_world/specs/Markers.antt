-- The markers of a scene's entities.
use Rattle.std.specs.Prelude.{ℕ, Bool, Option}
use Rattle.specs_layouts.specs.Channels.{Log, log_of}
use Rattle.specs_layouts.specs.Flagged.{Flagged, tells}
use Rattle.specs_layouts.specs.Masked.{Masked}
use Rattle.specs_layouts.specs.Slots.{slots_of, slot_at}
use Rattle.specs_layouts.specs.declared.storages.vec.VecStorage.{VecStorage}
use Rattle.specs_layouts.specs.declared.track.ComponentEvent.{ComponentEvent}

-- the marker at an index of their layout, by its id
abbrev pub marker_in : Flagged (VecStorage ℕ) → ℕ → Option ℕ
marker_in layout = slot_at (slots_of layout.inner)

-- the marker at an index of their storage
abbrev pub marker_at : Masked (Flagged (VecStorage ℕ)) → ℕ → Option ℕ
marker_at markers = marker_in markers.inner

-- the events that tell of them, and whether a change is told
abbrev pub marker_log : Masked (Flagged (VecStorage ℕ)) → Log ComponentEvent
marker_log markers = log_of markers.inner.channel

abbrev pub marker_tells : Masked (Flagged (VecStorage ℕ)) → Bool
marker_tells markers = tells markers.inner
