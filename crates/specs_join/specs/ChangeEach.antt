-- What becomes of the parts of a storage where each that a join has an item for is changed.
use Rattle.std.specs.Prelude.{◌≡◌, ℕ, ◌<◌, ◌≤◌, Bool, ◌&&◌, List, [], ◌∷◌, Option, Some, None, is_some}
use Rattle.hibitset_sets.specs.BitSet.{SetWithRoom, has_member}
use Rattle.hibitset_sets.specs.Walk.{walk}
use Rattle.specs_layouts.specs.Channels.{Log}
use Rattle.specs_layouts.specs.Parts.{told}
use Rattle.specs_layouts.specs.declared.track.ComponentEvent.{ComponentEvent}
use Rattle.specs_layouts.specs.declared.track.ComponentEvent.TheVariants as event

-- the indices that a storage and a join share, ascending
abbrev pub shared_indices : {S : Type 0} → SetWithRoom → (ℕ → Option S) → List ℕ
shared_indices mask items = walk (λ index. has_member mask index && is_some (items index))

-- the events after each index of a list was told to be modified
abbrev pub told_each : Bool → Log ComponentEvent → List ℕ → Log ComponentEvent
told_each emits events [] = events
told_each emits events (index ∷ indices) = told_each emits (told emits events (event.Modified index)) indices

module _ {T S : Type 0} (changed : T → S → Option T) where
  -- a part after the change where there is an item, or none where the change is refused
  abbrev pub after : Option T → Option S → Option T
  after None item = None
  after (Some part) None = Some part
  after (Some part) (Some item) = changed part item

  module _ (old : ℕ → Option T) (items : ℕ → Option S) where
    -- each part that has an item is changed, and the others are as they were
    pub record AreChanged (new : ℕ → Option T) : Type 0 where
      pub parts : (index : ℕ) → new index ≡ after (old index) (items index)
      pub same : (index : ℕ) → is_some (new index) ≡ is_some (old index)

    -- those before an index are changed, none of them refused, and those from it on are as they were
    pub record AreChangedBelow (index : ℕ) (new : ℕ → Option T) : Type 0 where
      pub before : (other : ℕ) → other < index → new other ≡ after (old other) (items other)
      pub from : (other : ℕ) → index ≤ other → new other ≡ old other
      pub same : (other : ℕ) → is_some (new other) ≡ is_some (old other)

    -- the change of the part at an index is refused
    pub record IsRefused (index : ℕ) : Type 0 where
      pub part : T
      pub item : S
      pub has_part : old index ≡ Some part
      pub has_item : items index ≡ Some item
      pub refused : changed part item ≡ None
