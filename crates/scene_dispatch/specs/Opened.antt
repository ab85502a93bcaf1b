-- Queues that are put into a world for the systems of a scene.
use Rattle.std.specs.Prelude.{◌≡◌, ℕ, false, List, [], Some}
use Rattle.std.specs.List.{All}
use Rattle.std.specs.Option.{option_and_then}
use Rattle.std.specs.FinMap as slots
use Rattle.shred_world.specs.declared.resource_id.ResourceId.{ResourceId}
use Rattle.shred_world.specs.ResourceIds.{same_id}
use Rattle.shred_world.specs.Worlds.{Slots, value_at}
use Rattle.scene_model.specs.declared.command.Queue.{Queue}
use Rattle.scene_model.specs.Queues.{waiting}
use Rattle.scene_world.specs.Places.{Places}

module _ {V D : Type 0} (places : Places V D) where
  -- the queue of the system at a position stands in a world, and is empty
  pub record HasEmptyQueue (w : Slots V) (position : ℕ) : Type 0 where
    pub queue : Queue D
    pub there : option_and_then places.queue (value_at w (places.queue_id position)) ≡ Some queue
    pub empty : waiting queue ≡ []

  -- an id is that of none of the queues for these positions
  abbrev pub IsElsewhere : List ℕ → ResourceId → Type 0
  IsElsewhere positions id = All (λ position. same_id id (places.queue_id position) ≡ false) positions

  -- under each id but those of the queues for these positions stands what stood there
  abbrev pub StandsElse : List ℕ → (w later : Slots V) → Type 0
  StandsElse positions w later = (id : ResourceId) → IsElsewhere positions id → slots.get later id ≡ slots.get w id
