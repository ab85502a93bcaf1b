use Rattle.std.proofs.Common.{take}
use Rattle.scene_model.specs.Declaring.{texts}
use Rattle.scene_world.specs.Places.{kinds_of}
use Rattle.scene_commands.specs.Acts.{seen_of}
use Rattle.scene_commands.specs.Deaths.{DropsParts}
use Rattle.scene_commands.proofs.deaths.take_all.Given as goal

abbrev pub invariant-loop-kind : goal.invariant-loop-kind
invariant-loop-kind g l = DropsParts (kinds_of g.R.Value.SceneValue.places g.R.DocumentRules.part_of g.R.WorldRules.columns) l.index (texts (take l.kind-index l.names)) (seen_of l.initial.world) (seen_of l.world)
