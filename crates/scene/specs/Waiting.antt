-- Commands that wait in the queues of a world.
use Rattle.std.specs.Prelude.{◌≡◌, ◌<◌, ◌++◌, ℕ, true, false, List, [], All, AllPairs}
use Rattle.std.specs.List.{flat_map}
use Rattle.shred_world.specs.declared.resource_id.ResourceId.{ResourceId}
use Rattle.shred_world.specs.ResourceIds.{same_id}
use Rattle.shred_world.specs.Worlds.{Slots}
use Rattle.scene_model.specs.declared.command.Queue.{Queue}
use Rattle.scene_model.specs.Parts.{Part, Name, is_among}
use Rattle.scene_model.specs.Rulebook.{Command}
use Rattle.scene_model.specs.Scenes.{PlainSystem, lives}
use Rattle.scene_model.specs.Queues.{plain_commands, waiting}
use Rattle.scene_world.specs.Standing.{Sight, Kinds, commands_of}
use Rattle.scene_commands.specs.Acts.{seen_of}
use Rattle.scene.specs.declared.commands.FrameInput.{FrameInput}

-- the commands that wait in queues, those of the first queue first
abbrev pub waiting_in : {D : Type 0} → (D → Part) → List (Queue D) → List Command
waiting_in part_of queues = flat_map (λ queue. plain_commands part_of (waiting queue)) queues

-- places ascend
abbrev pub PlacesAscend : List ℕ → Type 0
PlacesAscend places = AllPairs (λ one other. one < other) places

-- each system stands at one of the places, which ascend
pub record AreTheirPlaces (places : List ℕ) (order : List PlainSystem) : Type 0 where
  pub ascend : PlacesAscend places
  pub there : All (λ system. lives system.position places ≡ true) order

module _ {V : Type 0} (kinds : Kinds V) where
  -- the commands that wait in a world at places, those of the first place first
  abbrev pub waiting_at : List ℕ → Sight V → List Command
  waiting_at places w = flat_map (commands_of kinds w) places

  -- the commands of a frame: those that are given to it, and then those that wait in a world at its places
  abbrev pub given_and_waiting : {D : Type 0} → (D → Part) → FrameInput D → Sight V → List Command
  given_and_waiting part_of input w = plain_commands part_of input.given.now ++ waiting_at input.places.now w

  -- no command waits
  abbrev pub NoneWaits : Sight V → Type 0
  NoneWaits w = (position : ℕ) → commands_of kinds w position ≡ []

  -- none waits at some places
  abbrev pub NoneWaitsAt : List ℕ → Sight V → Type 0
  NoneWaitsAt places w = All (λ place. commands_of kinds w place ≡ []) places

  -- an id is that of no queue at these places
  abbrev pub IsNoQueue : List ℕ → ResourceId → Type 0
  IsNoQueue places id = All (λ place. same_id id (kinds.queue_id place) ≡ false) places

  -- elsewhere than in the queues at these places is what was there
  abbrev pub StaysBeside : List ℕ → (w later : Slots V) → Type 0
  StaysBeside places w later = (id : ResourceId) → IsNoQueue places id → seen_of later id ≡ seen_of w id

  -- and where commands are carried out, elsewhere than these change
  abbrev pub StaysApart : List ℕ → (w later : Slots V) → Type 0
  StaysApart places w later = (id : ResourceId) → same_id id kinds.entities_id ≡ false → same_id id kinds.markers_id ≡ false → same_id id kinds.allocator_id ≡ false
      → ((kind : Name) → is_among kind kinds.part_names ≡ true → same_id id (kinds.part_id kind) ≡ false) → IsNoQueue places id → seen_of later id ≡ seen_of w id
