-- What a system that asks makes of what it sees, and of a world that it sets up.
use Rattle.std.specs.Prelude.{◌≡◌, Bool, true, false, Option, None, Some, List}
use Rattle.shred_world.specs.Bundles.{Holding}
use Rattle.shred_world.specs.Worlds.{Slots}
use Rattle.shred_stages.specs.declared.stop.Stop.{Stop}
use Rattle.specs_world.specs.Resources.{Place}
use Rattle.specs.specs.Asking.{Asks, with_queue}
use Rattle.world_cases.specs.declared.lazy.asking.Asker.{Asker}
use Rattle.world_cases.specs.declared.lazy.tasks.Task.{Task}
use Rattle.world_cases.specs.declared.lazy.tasks.Task.TheVariants.{PutHealth}
use Rattle.world_cases.specs.declared.lazy.values.Value.{Value}

-- it queued its job under its own number; refused, it left all as it was
abbrev pub AskerMeets : Place Value (List Task) → Asker → Holding Value → Option Stop → Asker → Holding Value → Type 0
AskerMeets at asker seen None after left = (after ≡ asker) × Asks at asker.number (PutHealth (record { entity = asker.entity; part = asker.health })) seen left
AskerMeets at asker seen (Some stop) after left = (after ≡ asker) × (left ≡ seen)

-- its queue stands under its number
abbrev pub AskerSetsUp : Place Value (List Task) → Asker → Bool → Slots Value → Asker → Slots Value → Type 0
AskerSetsUp at asker true before asker_after after = after ≡ with_queue at before asker.number
AskerSetsUp at asker false before asker_after after = after ≡ before
