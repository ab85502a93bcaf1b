use Rattle.std.proofs.Common.{take, filter}
use Rattle.scene_model.specs.Declaring.{texts}
use Rattle.scene_world.specs.Places.{kinds_of}
use Rattle.scene_commands.specs.Acts.{seen_of}
use Rattle.scene_commands.specs.Owning.{PairAlike}
use Rattle.scene_commands.proofs.owning.owning_among.Given as goal

abbrev pub invariant-loop-kind : goal.invariant-loop-kind
invariant-loop-kind g l = PairAlike (kinds_of g.R.Value.SceneValue.places g.R.DocumentRules.part_of g.R.WorldRules.columns) (seen_of l.world) (texts l.kinds.items) (filter g.R.WorldRules.columns.owning (texts (take l.kind-index l.names)))
