use Rattle.scene_model.specs.Declaring.{texts}
use Rattle.scene_world.specs.Places.{kinds_of}
use Rattle.scene_commands.specs.Acts.{seen_of}
use Rattle.scene_commands.proofs.CatchLemmas.{Catching}
use Rattle.scene_commands.proofs.catching.read_kinds.Given as goal

-- those readers of the kinds so far have read all
abbrev pub invariant-loop-place : goal.invariant-loop-place
invariant-loop-place g l = Catching (kinds_of g.R.Value.SceneValue.places g.R.DocumentRules.part_of g.R.WorldRules.columns) g.met.R.WorldRules.apart l.turn (texts l.names) l.watchers l.place (seen_of l.fn.world) (seen_of l.world)
