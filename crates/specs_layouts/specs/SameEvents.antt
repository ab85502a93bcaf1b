-- The same event of another index.
use Rattle.std.specs.Prelude.{◌≡◌, ℕ, refl}
use Rattle.specs_layouts.specs.Shows.{index_of}
use Rattle.specs_layouts.specs.declared.track.ComponentEvent.{ComponentEvent}
use Rattle.specs_layouts.specs.declared.track.ComponentEvent.TheVariants.{Inserted, Modified, Removed}

-- an event of that kind, of that index
abbrev pub same_event_at : ComponentEvent → ℕ → ComponentEvent
same_event_at (Inserted _) index = Inserted index
same_event_at (Modified _) index = Modified index
same_event_at (Removed _) index = Removed index

pub index-same : (event : ComponentEvent) (index : ℕ) → index_of (same_event_at event index) ≡ index
index-same (Inserted _) index = refl
index-same (Modified _) index = refl
index-same (Removed _) index = refl

pub same-same : (event : ComponentEvent) (one other : ℕ) → same_event_at (same_event_at event one) other ≡ same_event_at event other
same-same (Inserted _) one other = refl
same-same (Modified _) one other = refl
same-same (Removed _) one other = refl
