-- What contracts see of a scene's storage whose parts are changed.
use Rattle.specs_layouts.specs.Channels.{log_of}
use Rattle.specs_layouts.specs.Flagged.{Flagged, tells}
use Rattle.specs_layouts.specs.Shows.{Shows}
use Rattle.scene_world.specs.declared.any_store.AnyStore.{AnyStore}
use Rattle.scene_world.specs.Stores.{store_part}

-- the events of a storage show what became of its parts
abbrev pub ShowsParts : {T : Type 0} → Flagged (AnyStore T) → Flagged (AnyStore T) → Type 0
ShowsParts {T} = Shows (λ (s : Flagged (AnyStore T)). store_part s.inner) (λ s. log_of s.channel) tells
