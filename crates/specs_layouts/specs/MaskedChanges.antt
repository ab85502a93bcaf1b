-- What a call makes of a masked storage: of its parts, and of the events that tell of them.
use Rattle.std.specs.Prelude.{ℕ, Bool, Option, is_some, if◌then◌else◌}
use Rattle.specs_layouts.specs.Channels.{Log}
use Rattle.specs_layouts.specs.Masked.{Masked}
use Rattle.specs_layouts.specs.Parts.{Puts, SameParts, told}
use Rattle.specs_layouts.specs.declared.track.ComponentEvent.{ComponentEvent}
use Rattle.specs_layouts.specs.declared.track.ComponentEvent.TheVariants as event

-- one index has this after, and each other what it had before
abbrev pub PutsIn : {S T : Type 0} → (S → ℕ → Option T) → Masked S → ℕ → Option T → Masked S → Type 0
PutsIn part_at before index part after = Puts (part_at before.inner) index part (part_at after.inner)

-- each index has what it had
abbrev pub KeepsParts : {S T : Type 0} → (S → ℕ → Option T) → Masked S → Masked S → Type 0
KeepsParts part_at before after = SameParts (part_at before.inner) (part_at after.inner)

-- the events with one more, which is written where the storage emits
abbrev pub told_in : {S : Type 0} → (S → Bool) → (S → Log ComponentEvent) → Masked S → ComponentEvent → Log ComponentEvent
told_in emits events storage one = told (emits storage.inner) (events storage.inner) one

-- the events after a part was put at an index, over another or where none was
abbrev pub told_put : {S T : Type 0} → (S → ℕ → Option T) → (S → Bool) → (S → Log ComponentEvent) → Masked S → ℕ → Log ComponentEvent
told_put part_at emits events storage index =
    told_in emits events storage (if is_some (part_at storage.inner index) then event.Modified index else event.Inserted index)

-- the events after the part at an index was taken out, where it has one
abbrev pub told_taken : {S T : Type 0} → (S → ℕ → Option T) → (S → Bool) → (S → Log ComponentEvent) → Masked S → ℕ → Log ComponentEvent
told_taken part_at emits events storage index =
    if is_some (part_at storage.inner index) then told_in emits events storage (event.Removed index) else events storage.inner
