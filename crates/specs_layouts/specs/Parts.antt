-- What a storage holds: the part at each index, and the events that were written.
use Rattle.std.specs.Prelude.{◌≡◌, ◌≢◌, ℕ, Bool, [], ◌∷◌, Option, None, if◌then◌else◌}
use Rattle.specs_layouts.specs.Channels.{Log, with_more}

-- one index has this after, and each other what it had before
pub record Puts {T : Type 0} (before : ℕ → Option T) (index : ℕ) (part : Option T) (after : ℕ → Option T) : Type 0 where
  pub here : after index ≡ part
  pub others : (other : ℕ) → other ≢ index → after other ≡ before other

-- each index has what it had
abbrev pub SameParts : {T : Type 0} → (ℕ → Option T) → (ℕ → Option T) → Type 0
SameParts before after = (index : ℕ) → after index ≡ before index

-- no index has a part
abbrev pub HasNone : {T : Type 0} → (ℕ → Option T) → Type 0
HasNone parts = (index : ℕ) → parts index ≡ None

-- the events with one more, which is written where the storage emits
abbrev pub told : {E : Type 0} → Bool → Log E → E → Log E
told emits events event = if emits then with_more events (event ∷ []) else events
