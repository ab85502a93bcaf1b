-- What becomes of a world as a document is put into it.
use Rattle.std.specs.Prelude.{◌≡◌, ℕ, []}
use Rattle.shred_world.specs.Worlds.{Slots}
use Rattle.scene_model.specs.Scenes.{PlainScene}
use Rattle.scene_world.specs.Standing.{Kinds, roll_of, plain_of, commands_of}
use Rattle.scene_commands.specs.Bounds.{GrowsByLiving}
use Rattle.scene_commands.specs.Acts.{seen_of, MayAct}

module _ {V : Type 0} (kinds : Kinds V) where
  -- no queue of a world has commands
  abbrev pub IsQuiet : Slots V → Type 0
  IsQuiet w = (position : ℕ) → commands_of kinds (seen_of w) position ≡ []

  -- A world becomes one on which commands may act, whose scene is what a step makes of the one before, the queues have what they
  -- had, and an index had at most as many births more as more ids live.
  pub record Becomes (step : PlainScene → PlainScene) (w later : Slots V) : Type 0 where
    pub may : MayAct kinds later
    pub scene : plain_of kinds (seen_of later) ≡ step (plain_of kinds (seen_of w))
    pub queues : (position : ℕ) → commands_of kinds (seen_of later) position ≡ commands_of kinds (seen_of w) position
    pub grows : GrowsByLiving (roll_of kinds (seen_of w)) (roll_of kinds (seen_of later))
