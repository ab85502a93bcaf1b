-- Values that are stored at the indices of a list, and the events that tell of it.
use Rattle.std.specs.Prelude.{ℕ, Bool, List, map, if◌then◌else◌}
use Rattle.hibitset_sets.specs.BitSet.{SetWithRoom, has_member}
use Rattle.hibitset_sets.specs.Walk.{walk, is_pending}
use Rattle.specs_layouts.specs.Channels.{Log, with_more}
use Rattle.specs_layouts.specs.declared.track.ComponentEvent.{ComponentEvent}
use Rattle.specs_layouts.specs.declared.track.ComponentEvent.TheVariants as event

-- the events after one for each index of a list, which is written where the storage emits
abbrev pub all_told : Bool → Log ComponentEvent → List ℕ → Log ComponentEvent
all_told emits events indices = if emits then with_more events (map event.Modified indices) else events

-- the members of a set that a walk under way still gives
abbrev pub left_at : SetWithRoom → List ℕ → List ℕ → List ℕ
left_at s masks prefix = walk (is_pending (has_member s) masks prefix)
